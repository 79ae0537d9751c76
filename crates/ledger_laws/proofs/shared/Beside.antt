-- A state with other sessions, and the answers of commands beside it. For proofs of other crates.
use Rattle.std.proofs.Common.{◌≡◌, ℕ, Bool, true, false, is_some, if◌then◌else◌, List, [], ◌∷◌, Option, None, Some, refl, sym, ap, ◌∙◌}
use Rattle.std.specs.FinMap as finite
use Rattle.std.specs.FinSet as set
use Rattle.ledger_spec.specs.Maps.{ForActor}
use Rattle.ledger_spec.specs.declared.Kind.{Kind}
use Rattle.ledger_spec.specs.Bytes.{Bytes, Hash, Half}
use Rattle.ledger_spec.specs.Forms.{Held}
use Rattle.ledger_machine.specs.declared.commands.WantReply.{WantReply}
use Rattle.ledger_machine.specs.declared.commands.WantReply.TheVariants as want
use Rattle.ledger_spec.specs.declared.replies.CheckReply.{CheckReply}
use Rattle.ledger_spec.specs.declared.replies.CheckReply.TheVariants as check
use Rattle.ledger_spec.specs.declared.replies.TickReply.{TickReply}
use Rattle.ledger_spec.specs.declared.replies.TickReply.TheVariants as tick
use Rattle.ledger_spec.specs.declared.replies.BaseReply.TheVariants as base
use Rattle.ledger_spec.specs.declared.replies.NodeReply.TheVariants as node
use Rattle.ledger_machine.specs.declared.commands.Reply.{Reply}
use Rattle.ledger_machine.specs.declared.commands.Reply.TheVariants as says
use Rattle.ledger_spec.specs.Bases.{base_forms}
use Rattle.ledger_spec.specs.Acquiring.{is_bad, after_outcome, after_judging}
use Rattle.ledger_machine.specs.State.{State, Session, form_in, with_form, with_forms, with_peers}
use Rattle.ledger_machine.specs.Want.{after_want}
use Rattle.ledger_machine.specs.Check.{after_check}
use Rattle.ledger_machine.specs.Base.{after_base, after_node, node_forms}
use Rattle.ledger_machine.specs.Ticks.{after_tick}
use Rattle.ledger_machine.specs.Steps.{IsAfter, Gives, Gets, Pages}

module _ (half : Half) (es : ForActor Session) where
  -- the state with these sessions
  abbrev pub beside : State → State
  beside s = record s { sessions = es }

  pub form_beside : (s : State) (form : Bytes) → with_form half (beside s) form ≡ beside (with_form half s form)
  form_beside s form = at (is_some (form_in s (half form)))
    where
      at : (b : Bool)
          → (if b then beside s else record (beside s)
          { nodes = finite.insert s.nodes (half form) form; born = set.insert s.born (half form) })
          ≡ beside (if b then s else record s { nodes = finite.insert s.nodes (half form) form; born = set.insert s.born (half form) })
      at true = refl
      at false = refl

  pub forms_beside : (s : State) (forms : List Bytes) → with_forms half (beside s) forms ≡ beside (with_forms half s forms)
  forms_beside s [] = refl
  forms_beside s (form ∷ forms) =
      ap (λ (x : State). with_forms half x forms) (form_beside s form) ∙ forms_beside (with_form half s form) forms

  -- what a rotation keeps is no part of the sessions
  pub after_beside : (t t' s' : State) → t' ≡ beside t → IsAfter t s' → IsAfter t' (beside s')
  after_beside t t' s' same e = ap beside e ∙ sym (ap (λ (x : State). record x { shaded = s'.shaded }) same)

  pub gives_beside : (r : Reply) (t t' : State) (reply : Reply) (s' : State) → t' ≡ beside t → Gives r t reply s' → Gives r t' reply (beside s')
  gives_beside r t t' reply s' same g = record { says = g.says; after = after_beside t t' s' same g.after }

  pub want_beside : (s : State) (t : Hash) (seq : ℕ) (r : WantReply) → after_want (beside s) t seq r ≡ beside (after_want s t seq r)
  want_beside s t seq want.Opened = refl
  want_beside s t seq want.Open = refl
  want_beside s t seq want.Listed = refl
  want_beside s t seq (want.BelowFloor n) = refl
  want_beside s t seq want.TooMany = refl

  pub check_beside : (s : State) (t : Hash) (seq : ℕ) (r : CheckReply) → after_check (beside s) t seq r ≡ beside (after_check s t seq r)
  check_beside s t seq check.Complete = refl
  check_beside s t seq (check.Need peer places) = refl
  check_beside s t seq (check.SeqDiffers asked found) = refl
  check_beside s t seq check.ZeroState = refl
  check_beside s t seq (check.BelowFloor f) = refl
  check_beside s t seq (check.Malformed place rule) = refl
  check_beside s t seq (check.Waiting n) = refl
  check_beside s t seq check.NoPeer = refl
  check_beside s t seq check.NotOpen = refl

  pub tick_beside : (s : State) (t : Hash) (r : TickReply) → after_tick (beside s) t r ≡ beside (after_tick s t r)
  tick_beside s t (tick.Timeout n) = refl
  tick_beside s t (tick.GaveUp n) = refl
  tick_beside s t tick.NotOpen = refl

  pub base_beside : (s : State) (p : ℕ) (t : Hash) (head : Bytes) (state tx : Option Bytes) (r : Reply)
      → after_base half (beside s) p t head state tx r ≡ beside (after_base half s p t head state tx r)
  base_beside s p t head state tx (says.Base (base.Parts h a b)) =
      ap (λ (x : State). with_peers x t (after_judging p (record { header = h; state = a; tx = b })))
      (forms_beside s (base_forms half (form_in s) t head state tx))
  base_beside s p t head state tx _ = refl

  pub node_beside : (s : State) (p : ℕ) (t : Hash) (kind : Kind) (path : List ℕ) (blob : Bytes) (r : Reply)
      → after_node half (beside s) p t kind path blob r ≡ beside (after_node half s p t kind path blob r)
  node_beside s p t kind path blob (says.Node (node.One o)) =
      ap (λ (x : State). with_peers x t (after_outcome p (is_bad o))) (forms_beside s (node_forms half s t kind path blob))
  node_beside s p t kind path blob _ = refl

  pub gets_beside : (s : State) (kind : Kind) (key : Hash) (root : Option Hash) (reply : Reply) (used : List Held) (s' : State)
      → Gets half s kind key root reply used s' → Gets half (beside s) kind key root reply used (beside s')
  gets_beside s kind key None reply used s' g = gives_beside _ s (beside s) reply s' refl g
  gets_beside s kind key (Some root) reply used s' g = (g.0, after_beside s (beside s) s' refl g.1)

  pub pages_beside : (s : State) (kind : Kind) (key : Hash) (n : ℕ) (root : Option Hash) (reply : Reply) (used : List Held) (s' : State)
      → Pages half s kind key n root reply used s' → Pages half (beside s) kind key n root reply used (beside s')
  pages_beside s kind key n None reply used s' g = gives_beside _ s (beside s) reply s' refl g
  pages_beside s kind key n (Some root) reply used s' g = (
    record { page = g.0.page; says = g.0.says; own = g.0.own; read = g.0.read; stored = g.0.stored; every = g.0.every },
    after_beside s (beside s) s' refl g.1,
  )
