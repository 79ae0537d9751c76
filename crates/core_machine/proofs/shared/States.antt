-- Changes of states, and the steps that they are.
use Rattle.std.proofs.Common.{◌≡◌, ◌<◌, IsTrue, Contains, ℕ, List, [], ◌∷◌, Option, Some, None}
use Rattle.std.proofs.Common.{Result, Ok, Err, Bool, true, false, cond, is_some, if◌then◌else◌, refl, sym, ◌∙◌, ap, subst, arith}
use Rattle.std.specs.Map.{lookup, set_value}
use Rattle.std.specs.Result.{OnErr}
use Rattle.ledger_spec.specs.Bytes.{Bytes, Hash, Half, is_nonzero}
use Rattle.ledger_spec.specs.Maps.{ForHash}
use Rattle.ledger_spec.specs.Acquiring.{Acquiring}
use Rattle.ledger_machine.specs.declared.commands.Command.{Command}
use Rattle.ledger_machine.specs.declared.commands.Command.TheVariants as command
use Rattle.ledger_machine.specs.declared.commands.WantReply.{WantReply}
use Rattle.ledger_spec.specs.declared.replies.PeerReply.{PeerReply}
use Rattle.ledger_spec.specs.declared.replies.CheckReply.{CheckReply}
use Rattle.ledger_machine.specs.declared.commands.Reply.TheVariants as says
use Rattle.std.specs.FinMap as finite
use Rattle.std.specs.FinSet as set
use Rattle.ledger_machine.specs.State.{State, form_in, with_form, stored_seq}
use Rattle.core_machine.specs.Desks.{Desk}
use Rattle.ledger_machine.specs.Want.{want_reply, after_want}
use Rattle.ledger_machine.specs.Peer.{peer_reply, after_peer}
use Rattle.ledger_machine.specs.Check.{check_reply, after_check}
use Rattle.ledger_machine.specs.Commands.{MayBeRefused}
use Rattle.ledger_machine.specs.Steps.{Refused, IsAfter, own_forms}
use Rattle.ledger_machine.specs.Steps.{Does}

some_injective : {X : Type 0} {x y : X} → Some x ≡ Some y → x ≡ y
some_injective {X} {x} {y} e = ap (λ (o : Option X). elim o [ Some z ↦ z | None ↦ x ]) e

-- the value that is there already
pub set_same : {K X : Type 0} (test : K → Bool) (es : List (K × X)) (w : X) → lookup test es ≡ Some w → set_value test es w ≡ es
set_same test [] w e = refl
set_same test (x ∷ es) w e =
    elim (test x.0) as (λ b. cond b (Some x.1) (lookup test es) ≡ Some w → cond b ((x.0, w) ∷ es) (x ∷ set_value test es w) ≡ x ∷ es) [
      | true ↦ λ h. ap (λ v. (x.0, v) ∷ es) (sym (some_injective h))
      | false ↦ λ h. ap (λ more. x ∷ more) (set_same test es w h)
    ] e

-- the acquisitions of a desk alone change, or nothing does
abbrev pub desk_with : Desk → ForHash Acquiring → Desk
desk_with d m = record d { state = record d.state { wanted = m } }

pub same_desk : (d0 d : Desk) → d0 ≡ d → (n : ForHash Acquiring) → n ≡ d0.state.wanted → desk_with d0 n ≡ d
same_desk d0 d e n h = ap (desk_with d0) h ∙ e

-- a fact that holds at either result
pub on_err : {X E : Type 0} (r : Result X E) {P : Type 0} → P → OnErr r P
on_err (Ok x) p = tt
on_err (Err e) p = p

-- but for what a rotation keeps
pub same_shaded : (s' t : State) → s' ≡ t → IsAfter t s'
same_shaded s' t e = subst (λ x. x ≡ record t { shaded = x.shaded }) (sym e) refl

pub after_on : (s t u : State) → IsAfter s t → IsAfter t u → IsAfter s u
after_on s t u a b = b ∙ ap (λ (x : State). record x { shaded = u.shaded }) a

pub form_after : (half : Half) (s t : State) (form : Bytes) → IsAfter s t → IsAfter (with_form half s form) (with_form half t form)
form_after half s t form a =
    subst (λ (x : State). IsAfter (with_form half s form) (with_form half x form)) (sym a) (at (is_some (form_in s (half form))))
  where
    more : State → State
    more x = record x { nodes = finite.insert s.nodes (half form) form; born = set.insert s.born (half form) }

    at : (b : Bool) → IsAfter (if b then s else more s)
        (if b then record s { shaded = t.shaded } else more (record s { shaded = t.shaded }))
    at true = refl
    at false = refl

-- what commands do, by their replies
pub does_want : (half : Half) (s s' : State) (actor : ℕ) (t : Hash) (seq : ℕ) (r : WantReply) → r ≡ want_reply s t seq
    → s' ≡ after_want s t seq r
    → Does half s actor (command.Want t seq) (says.Want r) [] s'
does_want half s s' actor t seq r e after =
    record {
      outcome = record { says = ap says.Want e; after = same_shaded s' _ (after ∙ ap (after_want s t seq) e) };
      uses = refl;
    }

pub does_peer : (half : Half) (s s' : State) (actor p : ℕ) (t : Hash) (r : PeerReply) → r ≡ peer_reply s p t
    → s' ≡ after_peer s p t
    → Does half s actor (command.Peer p t) (says.Peer r) [] s'
does_peer half s s' actor p t r e after =
    record { outcome = record { says = ap says.Peer e; after = same_shaded s' _ after }; uses = refl }

pub does_check : (half : Half) (s s' : State) (actor : ℕ) (t : Hash) (r : CheckReply) → r ≡ check_reply half s t
    → s' ≡ after_check s t (stored_seq s t) r
    → Does half s actor (command.Check t) (says.Check r) [] s'
does_check half s s' actor t r e after =
    record {
      outcome = record { says = ap says.Check e; after = same_shaded s' _ (after ∙ ap (after_check s t (stored_seq s t)) e) };
      uses = refl;
    }

nothing_own : (half : Half) (s : State) (actor : ℕ) (c : Command) (form : Bytes) → Contains [] form
    → Contains (own_forms half s actor c) form × IsTrue (is_nonzero (half form))
nothing_own half s actor c form h = absurd (let below : h.0 < 0 = h.1 in omega (arith, below))

pub refused_nothing : (half : Half) (s s' : State) (actor : ℕ) (c : Command) → s' ≡ s → Refused half s actor c s'
refused_nothing half s s' actor c e = record { forms = []; own = nothing_own half s actor c; same = same_shaded s' s e }

pub does_memory : (half : Half) (s s' : State) (actor : ℕ) (c : Command) → MayBeRefused c → s' ≡ s
    → Does half s actor c says.Memory [] s'
does_memory half s s' actor c may e = record { outcome = (may, refused_nothing half s s' actor c e); uses = refl }
