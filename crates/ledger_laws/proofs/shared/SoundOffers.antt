-- The forms of a base reply's parts, and that these may be stored. For proofs of other crates.
use Rattle.std.proofs.Common.{◌⊎◌, inl, inr, ⊎_elim, ℕ, if◌then◌else◌, List, [], ◌++◌}
use Rattle.std.proofs.Common.{Option, None, Some, Result, Ok, Err, Contains, refl}
use Rattle.std.proofs.lemmas.List.Elements.{Contains-append_cases}
use Rattle.ledger_spec.specs.declared.Kind.{Kind}
use Rattle.ledger_spec.specs.declared.Kind.TheVariants as kinds
use Rattle.ledger_spec.specs.Bytes.{Bytes, Hash, Half, IsHalf, Lookup}
use Rattle.ledger_spec.specs.Offers.{Clash, head_forms, head_outcome}
use Rattle.ledger_spec.specs.Bases.{root_outcome, root_forms, unless_clash, behind_header, behind_state, base_forms}
use Rattle.ledger_spec.specs.Own.{IsStoredAt}
use Rattle.ledger_spec.specs.Peers.{is_present}
use Rattle.ledger_spec.specs.Acquiring.{Acquiring}
use Rattle.ledger_spec.proofs.shared.Storing.{node_fits, head_form_fits}
use Rattle.ledger_machine.specs.Base.{forms_for}
use Rattle.ledger_machine.specs.Scripts.{AreOffered, IfBytes}
use Rattle.ledger_laws.proofs.shared.SoundForms.{in_nothing}

-- what is judged behind a part is one of what follows
behind_form : {X : Type 0} (r : Result X Clash) (forms : List Bytes) (form : Bytes) → Contains (unless_clash r forms) form
    → Contains forms form
behind_form (Ok x) forms form i = i
behind_form (Err c) forms form i = absurd (in_nothing i)

module _ (half : Half) (nodes : Lookup) (t : Hash) (bytes : Bytes) (state tx : Option Bytes) where
  abbrev F1 : List Bytes
  F1 = head_forms (head_outcome half nodes t bytes) bytes

  abbrev F2 : List Bytes
  F2 = root_forms half (behind_header half nodes t bytes state tx) t kinds.State state

  abbrev F3 : List Bytes
  F3 = root_forms half (behind_state half nodes t bytes state tx) t kinds.Tx tx

  -- each form of a base reply's parts is the header's, the state root's or the transaction root's
  pub parts_cases : (form : Bytes) → Contains (base_forms half nodes t bytes state tx) form
      → Contains F1 form ⊎ (Contains F2 form ⊎ Contains F3 form)
  parts_cases form i =
      let last : List Bytes =
      unless_clash (root_outcome half (behind_header half nodes t bytes state tx) t kinds.State state) F3 in
      ⊎_elim (λ own. inl own)
      (λ more. ⊎_elim (λ one. inr (inl one)) (λ two. inr (inr (behind_form _ F3 form two)))
      (Contains-append_cases F2 last form (behind_form (head_outcome half nodes t bytes) (F2 ++ last) form more)))
      (Contains-append_cases F1 (unless_clash (head_outcome half nodes t bytes) (F2 ++ last)) form i)

-- a root is stored under its own hash
root_fits : (half : Half) (sized : IsHalf half) (nodes : Lookup) (t : Hash) (kind : Kind) (blob : Option Bytes) (form : Bytes)
    → IfBytes blob → Contains (root_forms half nodes t kind blob) form → IsStoredAt half (half form) form
root_fits half sized nodes t kind None form all i = absurd (in_nothing i)
root_fits half sized nodes t kind (Some blob) form all i = node_fits half sized nodes t kind [] blob form all i

-- and so is each part of a base reply
pub parts_fit : (half : Half) (sized : IsHalf half) (nodes : Lookup) (t : Hash) (bytes : Bytes) (state tx : Option Bytes) (form : Bytes)
    → AreOffered t bytes state tx → Contains (base_forms half nodes t bytes state tx) form → IsStoredAt half (half form) form
parts_fit half sized nodes t bytes state tx form is i =
    ⊎_elim (λ one. head_form_fits half nodes t bytes (head_outcome half nodes t bytes) form is.0 is.1 refl one)
    (λ more. ⊎_elim
    (λ two. root_fits half sized (behind_header half nodes t bytes state tx) t kinds.State state form is.2 two)
    (λ three. root_fits half sized (behind_state half nodes t bytes state tx) t kinds.Tx tx form is.3 three) more)
    (parts_cases half nodes t bytes state tx form i)

-- these forms, where the peer is present in the acquisition
abbrev pub if_present : ℕ → Option Acquiring → List Bytes → List Bytes
if_present p o forms = forms_for (λ a. if is_present a.peers p then forms else []) o
