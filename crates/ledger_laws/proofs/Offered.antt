-- All that a run stores is of some forms: those that its lines offer and its closes make.
use Rattle.std.proofs.Common.{◌≡◌, ⊎_elim, ℕ, Bool, true, false, not, if◌then◌else◌, ◌==◌}
use Rattle.std.proofs.Common.{List, [], ◌∷◌, ◌++◌, length}
use Rattle.std.proofs.Common.{Option, None, Some, is_some, Result, Ok, Err, Contains, sym, ap, ◌∙◌, subst}
use Rattle.std.specs.List.{find}
use Rattle.std.specs.FinMap as finite
use Rattle.std.specs.FinSet as set
use Rattle.std.proofs.lemmas.List.Elements.{Contains-append_left, Contains-append_right}
use Rattle.ledger_spec.specs.declared.Kind.{Kind}
use Rattle.ledger_spec.specs.declared.Kind.TheVariants as kinds
use Rattle.ledger_spec.specs.Maps.{hash_cmp, numbered_cmp, get_in}
use Rattle.ledger_spec.specs.Bytes.{Bytes, Hash, Half, Lookup, is_zero, same_bytes}
use Rattle.ledger_spec.specs.Forms.{Held, header_prefix}
use Rattle.ledger_spec.specs.Wire.{read_wire}
use Rattle.ledger_machine.specs.declared.commands.Command.{Command}
use Rattle.ledger_machine.specs.declared.commands.Command.TheVariants as command
use Rattle.ledger_spec.specs.declared.outcomes.Offered.{Offered}
use Rattle.ledger_spec.specs.declared.outcomes.Offered.TheVariants as offered
use Rattle.ledger_spec.specs.declared.outcomes.HeadOffered.{HeadOffered}
use Rattle.ledger_spec.specs.declared.outcomes.HeadOffered.TheVariants as head
use Rattle.ledger_machine.specs.State.{State, form_in, with_form, with_forms}
use Rattle.ledger_spec.specs.Bases.{given, root_forms, behind_header, behind_state, base_forms}
use Rattle.ledger_spec.specs.Offers.{Clash, head_given, head_outcome, node_outcome, stored_by}
use Rattle.ledger_machine.specs.Base.{node_forms}
use Rattle.ledger_spec.specs.Offers.{head_forms}
use Rattle.ledger_machine.specs.Steps.{own_forms}
use Rattle.ledger_machine.specs.Collisions.{form_read, part_form, head_form, offered_by, made_by}
use Rattle.ledger_machine.specs.Closing.{closes_into, unless_zero}
use Rattle.ledger_laws.proofs.SoundOffers.{present_form}
use Rattle.ledger_laws.proofs.shared.SoundOffers.{parts_cases}
use Rattle.ledger_laws.proofs.shared.SoundForms.{new_or_old, in_nothing, in_head, in_tail}

-- each form that is looked up stands under its own hash and is one of these
abbrev pub AreFrom : Half → List Bytes → Lookup → Type 0
AreFrom half forms nodes = (h : Hash) (form : Bytes) → nodes h ≡ Some form → (h ≡ half form) × Contains forms form

-- and so is each stored one
abbrev pub IsFrom : Half → List Bytes → State → Type 0
IsFrom half forms s = AreFrom half forms (form_in s)

module _ (half : Half) (forms : List Bytes) where
  -- one form more
  pub with_form_from : (s : State) (form : Bytes) → Contains forms form → IsFrom half forms s → IsFrom half forms (with_form half s form)
  with_form_from s form one from = at (form_in s (half form))
    where
      at : (o : Option Bytes)
          → IsFrom half forms (if is_some o then s else record s
          { nodes = finite.insert s.nodes (half form) form; born = set.insert s.born (half form) })
      at (Some old) h now e = from h now e
      at None h now e =
          ⊎_elim (λ old. from h now old) (λ new. (new.0 ∙ ap half (sym new.1), subst (Contains forms) (sym new.1) one))
          (new_or_old s.nodes (half form) form h now e)

  -- several more
  pub with_forms_from : (s : State) (more : List Bytes) → ((form : Bytes) → Contains more form → Contains forms form) → IsFrom half forms s
      → IsFrom half forms (with_forms half s more)
  with_forms_from s [] each from = from
  with_forms_from s (form ∷ more) each from =
      with_forms_from (with_form half s form) more (λ x c. each x (in_tail form x more c))
      (with_form_from s form (each form (in_head form more)) from)

-- what is stored of a node is what was read
stored_read : (r : Result Held ℕ) (o : Result Offered Clash) (form : Bytes) → Contains (stored_by r o) form → Contains (form_read r) form
stored_read (Ok n) (Ok offered.Good) form c = c
stored_read (Ok n) (Ok (offered.Malformed rule)) form c = c
stored_read (Ok n) (Ok offered.Duplicate) form c = absurd (in_nothing c)
stored_read (Ok n) (Ok (offered.BadWire cause)) form c = absurd (in_nothing c)
stored_read (Ok n) (Ok (offered.BadHash h found)) form c = absurd (in_nothing c)
stored_read (Ok n) (Ok offered.NoBase) form c = absurd (in_nothing c)
stored_read (Ok n) (Ok (offered.NoParent p)) form c = absurd (in_nothing c)
stored_read (Ok n) (Ok (offered.EmptyBranch p)) form c = absurd (in_nothing c)
stored_read (Ok n) (Ok (offered.UnderLeaf p)) form c = absurd (in_nothing c)
stored_read (Ok n) (Err clash) form c = absurd (in_nothing c)
stored_read (Err cause) o form c = absurd (in_nothing c)

-- what a header stores is its form
pub head_read : (half : Half) (nodes : Lookup) (t : Hash) (bytes form : Bytes)
    → Contains (head_forms (head_outcome half nodes t bytes) bytes) form → Contains (head_form bytes) form
head_read half nodes t bytes form c =
    at (length bytes == 118)
    (if not (same_bytes (half (header_prefix ++ bytes)) t) then Ok (head.BadHash (half (header_prefix ++ bytes))) else head_given t
    (header_prefix ++ bytes) (nodes t)) c
  where
    good : (r : Result HeadOffered Clash) → Contains (head_forms r bytes) form → Contains ((header_prefix ++ bytes) ∷ []) form
    good (Ok head.Good) c = c
    good (Ok head.Duplicate) c = absurd (in_nothing c)
    good (Ok (head.BadLength n)) c = absurd (in_nothing c)
    good (Ok (head.BadHash found)) c = absurd (in_nothing c)
    good (Err clash) c = absurd (in_nothing c)

    at : (a : Bool) (r : Result HeadOffered Clash)
        → Contains (head_forms (if not a then Ok (head.BadLength (length bytes)) else r) bytes) form
        → Contains (if a then (header_prefix ++ bytes) ∷ [] else []) form
    at true r c = good r c
    at false r c = absurd (in_nothing c)

-- what a root stores was read of it
pub root_read : (half : Half) (nodes : Lookup) (t : Hash) (kind : Kind) (blob : Option Bytes) (form : Bytes)
    → Contains (root_forms half nodes t kind blob) form → Contains (part_form half blob) form
root_read half nodes t kind None form c = c
root_read half nodes t kind (Some blob) form c = stored_read (read_wire half blob) (node_outcome half nodes t kind [] blob) form c

-- the parts of a base reply, among its forms
module _ (half : Half) (bytes : Bytes) (state tx : Option Bytes) (form : Bytes) where
  pub of_head : Contains (head_form bytes) form → Contains (head_form bytes ++ part_form half state ++ part_form half tx) form
  of_head c = Contains-append_left (head_form bytes ++ part_form half state) (part_form half tx) form
      (Contains-append_left (head_form bytes) (part_form half state) form c)

  pub of_state : Contains (part_form half state) form → Contains (head_form bytes ++ part_form half state ++ part_form half tx) form
  of_state c = Contains-append_left (head_form bytes ++ part_form half state) (part_form half tx) form
      (Contains-append_right (head_form bytes) (part_form half state) form c)

  pub of_tx : Contains (part_form half tx) form → Contains (head_form bytes ++ part_form half state ++ part_form half tx) form
  of_tx c = Contains-append_right (head_form bytes ++ part_form half state) (part_form half tx) form c

  -- and so are all that they store
  parts_read : (nodes : Lookup) (t : Hash) → Contains (base_forms half nodes t bytes state tx) form
      → Contains (head_form bytes ++ part_form half state ++ part_form half tx) form
  parts_read nodes t c =
      ⊎_elim (λ one. of_head (head_read half nodes t bytes form one))
      (λ more. ⊎_elim (λ two. of_state (root_read half (behind_header half nodes t bytes state tx) t kinds.State state form two))
      (λ three. of_tx (root_read half (behind_state half nodes t bytes state tx) t kinds.Tx tx form three)) more)
      (parts_cases half nodes t bytes state tx form c)

-- a close offers no form, and makes its own
abbrev IsNoClose : Command → Type 0
IsNoClose (command.Close x given) = ⊥
IsNoClose _ = Unit {0}

-- another command's own forms are among those that it offers
own_offered : (half : Half) (s : State) (a : ℕ) (c : Command) (form : Bytes) → IsNoClose c → Contains (own_forms half s a c) form
    → Contains (offered_by half c) form
own_offered half s a (command.Base p t bytes state tx) form other c =
    parts_read half bytes state tx form (form_in s) t
    (present_form p (get_in hash_cmp s.wanted t) (base_forms half (form_in s) t bytes state tx) form c)
own_offered half s a (command.Node p t kind path blob) form other c =
    stored_read (read_wire half blob) (node_outcome half (form_in s) t kind path blob) form
    (present_form p (get_in hash_cmp s.wanted t) (node_forms half s t kind path blob) form c)
own_offered half s a (command.Close x given) form other c = absurd other
own_offered half s a _ form other c = absurd (in_nothing c)

-- a command's own forms are among these, where those are that it offers and makes
pub own_among : (half : Half) (forms : List Bytes) (s : State) (a : ℕ) (c : Command)
    → ((form : Bytes) → Contains (offered_by half c) form → Contains forms form)
    → ((form : Bytes) → Contains (made_by half s a c) form → Contains forms form)
    → (form : Bytes) → Contains (own_forms half s a c) form → Contains forms form
own_among half forms s a (command.Close x given) each made form i =
    let all : List Bytes = closes_into half s given (get_in numbered_cmp s.sessions (a, x)) in
    made form (at (find (λ f. is_zero (half f)) all) all i)
  where
    at : (z : Option Bytes) (all : List Bytes) → Contains (unless_zero z all) form → Contains all form
    at None all c = c
    at (Some f) all c = absurd (in_nothing c)
own_among half forms s a c each made form i = each form (own_offered half s a c form tt i)
