-- What a refusal leaves: all of the state but what is stored, and what a rotation was told.
use Rattle.std.proofs.Common.{◌≡◌, ℕ, Bool, true, false, IsTrue, if◌then◌else◌, List, [], ◌∷◌, Some, Result, Ok, Err}
use Rattle.std.proofs.Common.{is_some, refl, ap, ◌∙◌}
use Rattle.std.specs.FinMap as finite
use Rattle.std.specs.FinSet as set
use Rattle.ledger_spec.specs.Bytes.{Bytes, Hash, Half}
use Rattle.ledger_spec.specs.Maps.{ForActor, hash_cmp, get_in, set_in}
use Rattle.ledger_spec.specs.Acquiring.{Acquiring}
use Rattle.ledger_spec.specs.Forms.{Held}
use Rattle.ledger_machine.specs.declared.commands.Command.{Command}
use Rattle.ledger_machine.specs.declared.commands.Reply.{Reply}
use Rattle.ledger_machine.specs.declared.commands.Reply.TheVariants as says
use Rattle.ledger_machine.specs.State.{State, form_in, with_form, with_forms, with_sessions}
use Rattle.ledger_machine.specs.Steps.{IsAfter, Outcomes, Does}
use Rattle.ledger_spec.specs.declared.replies.BaseReply.{BaseReply}
use Rattle.ledger_spec.specs.declared.replies.NodeReply.{NodeReply}
use Rattle.acquire_core.specs.Replies.{TakesBase, TakesNode}
use Rattle.edit_session.specs.Drafts.{Draft}
use Rattle.node_offer.specs.declared.fault.OfferFault.{OfferFault}
use Rattle.node_offer.specs.declared.fault.OfferFault.TheVariants as faults
use Rattle.open_sessions.specs.Edited.{sessions_in}
use Rattle.rotating_store.specs.Stores.{Store}
use Rattle.core_machine.specs.Machines.{with_open, told_forms}
use Rattle.core_machine.specs.Closing.{MayKeepAll}
use Rattle.core_machine.specs.Desks.{KeepsRest, over}
use Rattle.core_machine.specs.Refusals.{IsRefusal}
use Rattle.core_machine.specs.Wanting.{base_answer, node_answer}
use Rattle.core_machine.proofs.shared.States.{set_same}

-- the state but for what is stored, and what a rotation was told
abbrev pub bare : State → State
bare s = record s { nodes = finite.empty; born = set.empty; shaded = [] }

pub keeps_of : (s s' : State) → bare s' ≡ bare s → KeepsRest s s'
keeps_of s s' = ap (λ (x : State). record x { nodes = s'.nodes; born = s'.born; shaded = s'.shaded })

pub bare_of : (s s' : State) → KeepsRest s s' → bare s' ≡ bare s
bare_of s s' = ap bare

pub rest_on : (s s1 s' : State) → KeepsRest s s1 → KeepsRest s1 s' → KeepsRest s s'
rest_on s s1 s' k on = keeps_of s s' (bare_of s1 s' on ∙ bare_of s s1 k)

form_bare : (half : Half) (s : State) (form : Bytes) → bare (with_form half s form) ≡ bare s
form_bare half s form = at (is_some (form_in s (half form)))
  where
    at : (b : Bool)
        → bare (if b then s else record s
        { nodes = finite.insert s.nodes (half form) form; born = set.insert s.born (half form) }) ≡ bare s
    at true = refl
    at false = refl

forms_bare : (half : Half) (s : State) (forms : List Bytes) → bare (with_forms half s forms) ≡ bare s
forms_bare half s [] = refl
forms_bare half s (form ∷ forms) = forms_bare half (with_form half s form) forms ∙ form_bare half s form

-- forms are stored, and a rotation is told
pub forms_rest : (half : Half) (s s' : State) (forms : List Bytes) → IsAfter (with_forms half s forms) s' → KeepsRest s s'
forms_rest half s s' forms is = keeps_of s s' (ap bare is ∙ forms_bare half s forms)

-- a command that is refused
pub outcome_rest : (half : Half) (s s' : State) (a : ℕ) (c : Command) (used : List Held) (reply : Reply) → IsRefusal reply
    → Outcomes half s a c reply used s' → KeepsRest s s'
outcome_rest half s s' a c used says.Fault is o = forms_rest half s s' o.1.forms o.1.same
outcome_rest half s s' a c used says.Memory is o = forms_rest half s s' o.1.forms o.1.same
outcome_rest half s s' a c used (says.Clash h old new) is o = forms_rest half s s' o.1.forms o.1.same
outcome_rest half s s' a c used (says.ZeroHash form) is o = forms_rest half s s' o.1.forms o.1.same
outcome_rest half s s' a c used _ is o = absurd is

-- the same with sessions beside it, which are those of the drafts
pub beside_rest : (half : Half) (tells : Bool) (s s' : State) (drafts : ForActor Draft) (a : ℕ) (c : Command) (used : List Held)
    (reply : Reply) → IsRefusal reply → KeepsRest s s'
    → (IsTrue tells → Does half (with_open half tells s drafts) a c reply used (with_open half tells s' drafts))
    → KeepsRest (with_open half tells s drafts) (with_open half tells s' drafts)
beside_rest half true s s' drafts a c used reply is k does = outcome_rest half _ _ a c used reply is (does refl).outcome
beside_rest half false s s' drafts a c used reply is k does =
    ap (λ (x : State). with_sessions x (sessions_in half (told_forms false s) drafts)) k

-- so are they where forms of a ledger are stored
pub kept_rest : {X : Type 0} (half : Half) (s s' : State) (forms : List Bytes) (result : Result X OfferFault)
    → MayKeepAll half s forms result s' → KeepsRest s s'
kept_rest half s s' forms (Ok x) k = forms_rest half s s' forms k.1
kept_rest half s s' forms (Err (faults.Clash h old new)) k = forms_rest half s s' k.1.kept k.1.state
kept_rest half s s' forms (Err faults.Fault) k = forms_rest half s s' k.kept k.state
kept_rest half s s' forms (Err faults.Memory) k = forms_rest half s s' k.kept k.state

pub kept_beside : {X : Type 0} (half : Half) (tells : Bool) (s s' : State) (drafts : ForActor Draft) (forms : List Bytes)
    (result : Result X OfferFault) → KeepsRest s s'
    → (IsTrue tells → MayKeepAll half (with_open half tells s drafts) forms result (with_open half tells s' drafts))
    → KeepsRest (with_open half tells s drafts) (with_open half tells s' drafts)
kept_beside half true s s' drafts forms result k keeps = kept_rest half _ _ forms result (keeps refl)
kept_beside half false s s' drafts forms result k keeps =
    ap (λ (x : State). with_sessions x (sessions_in half (told_forms false s) drafts)) k

-- another store, with the acquisition as it was
over_rest : (st' : Store) (s : State) (t : Hash) (a a' : Acquiring) → get_in hash_cmp s.wanted t ≡ Some a → a' ≡ a → st'.epoch ≡ s.epoch
    → KeepsRest s (record (over st' s) { wanted = set_in hash_cmp s.wanted t a' })
over_rest st' s t a a' at same epoch i = record (over st' s) {
  wanted = (ap (set_in hash_cmp s.wanted t) same ∙ set_same _ s.wanted a at) i;
  epoch = epoch i;
}

-- a base reply or a node that is refused leaves the acquisition as it was
pub base_rest : (st' : Store) (s : State) (t : Hash) (p : ℕ) (a a' : Acquiring) (r : Result BaseReply OfferFault)
    → get_in hash_cmp s.wanted t ≡ Some a → TakesBase a p r a' → st'.epoch ≡ s.epoch → IsRefusal (base_answer r)
    → KeepsRest s (record (over st' s) { wanted = set_in hash_cmp s.wanted t a' })
base_rest st' s t p a a' (Ok x) at takes epoch is = absurd is
base_rest st' s t p a a' (Err why) at takes epoch is = over_rest st' s t a a' at takes.after epoch

pub node_rest : (st' : Store) (s : State) (t : Hash) (p : ℕ) (a a' : Acquiring) (r : Result NodeReply OfferFault)
    → get_in hash_cmp s.wanted t ≡ Some a → TakesNode a p r a' → st'.epoch ≡ s.epoch → IsRefusal (node_answer r)
    → KeepsRest s (record (over st' s) { wanted = set_in hash_cmp s.wanted t a' })
node_rest st' s t p a a' (Ok x) at takes epoch is = absurd is
node_rest st' s t p a a' (Err why) at takes epoch is = over_rest st' s t a a' at takes.after epoch
