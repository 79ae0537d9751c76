-- The views of a state along a step: only `view` and `unview` open and end any. For proofs of other crates.
use Rattle.std.proofs.Common.{◌≡◌, ℕ, Bool, true, false, is_some, if◌then◌else◌, List, [], ◌∷◌, Option, None, Some}
use Rattle.std.proofs.Common.{refl, ap, ◌∙◌}
use Rattle.std.specs.FinMap as finite
use Rattle.std.specs.FinSet as set
use Rattle.std.specs.Option.{option_map_or}
use Rattle.ledger_spec.specs.Maps.{numbered_cmp, get_in, set_in}
use Rattle.ledger_spec.specs.Bytes.{Bytes, Hash, Half}
use Rattle.ledger_spec.specs.declared.Kind.{Kind}
use Rattle.ledger_machine.specs.declared.commands.Command.{Command}
use Rattle.ledger_machine.specs.declared.commands.WantReply.{WantReply}
use Rattle.ledger_machine.specs.declared.commands.WantReply.TheVariants as want
use Rattle.ledger_spec.specs.declared.replies.CheckReply.{CheckReply}
use Rattle.ledger_spec.specs.declared.replies.CheckReply.TheVariants as check
use Rattle.ledger_spec.specs.declared.replies.TickReply.{TickReply}
use Rattle.ledger_spec.specs.declared.replies.TickReply.TheVariants as tick
use Rattle.ledger_machine.specs.declared.commands.EditReply.{EditReply}
use Rattle.ledger_machine.specs.declared.commands.EditReply.TheVariants as edits
use Rattle.ledger_machine.specs.declared.commands.BeginReply.{BeginReply}
use Rattle.ledger_machine.specs.declared.commands.BeginReply.TheVariants as begins
use Rattle.ledger_spec.specs.declared.replies.BaseReply.TheVariants as base
use Rattle.ledger_spec.specs.declared.replies.NodeReply.TheVariants as node
use Rattle.ledger_machine.specs.declared.commands.CloseReply.TheVariants as close
use Rattle.ledger_machine.specs.declared.commands.Reply.{Reply}
use Rattle.ledger_machine.specs.declared.commands.Reply.TheVariants as says
use Rattle.ledger_machine.specs.State.{State, Session, form_in, with_form, with_forms}
use Rattle.ledger_machine.specs.Want.{after_want}
use Rattle.ledger_machine.specs.Check.{after_check}
use Rattle.ledger_spec.specs.Bases.{base_forms}
use Rattle.ledger_machine.specs.Base.{after_base, after_node, node_forms}
use Rattle.ledger_machine.specs.Ticks.{after_tick}
use Rattle.ledger_machine.specs.Sessions.{after_edit, with_session}
use Rattle.ledger_machine.specs.Closing.{after_close, closed, closing_forms, new_header}
use Rattle.ledger_machine.specs.Rotation.{after_begin}
use Rattle.ledger_machine.specs.Steps.{IsAfter, Swaps}
use Rattle.ledger_machine.specs.declared.commands.Nature.{Nature}
use Rattle.ledger_machine.specs.declared.commands.Nature.TheVariants as natures
use Rattle.ledger_machine.specs.Commands.{nature_of}

-- what opens and ends no view
abbrev pub PinsNothing : Nature → Type 0
PinsNothing natures.View = ⊥
PinsNothing natures.Unview = ⊥
PinsNothing natures.Table = Unit {0}
PinsNothing natures.Check = Unit {0}
PinsNothing natures.Read = Unit {0}
PinsNothing natures.Session = Unit {0}
PinsNothing natures.Begin = Unit {0}
PinsNothing natures.Swap = Unit {0}

abbrev pub LeavesViews : Command → Type 0
LeavesViews c = PinsNothing (nature_of c)

-- a form more, and several, are no views
pub form_views : (half : Half) (s : State) (form : Bytes) → (with_form half s form).views ≡ s.views
form_views half s form = at (is_some (form_in s (half form)))
  where
    at : (b : Bool)
        → (if b then s else record s { nodes = finite.insert s.nodes (half form) form; born = set.insert s.born (half form) }).views
        ≡ s.views
    at true = refl
    at false = refl

pub forms_views : (half : Half) (s : State) (forms : List Bytes) → (with_forms half s forms).views ≡ s.views
forms_views half s [] = refl
forms_views half s (form ∷ forms) = forms_views half (with_form half s form) forms ∙ form_views half s form

-- nor is what a rotation keeps
pub after_views : (s t s' : State) → t.views ≡ s.views → IsAfter t s' → s'.views ≡ s.views
after_views s t s' same e = ap (λ (x : State). x.views) e ∙ same

pub want_views : (s : State) (t : Hash) (seq : ℕ) (r : WantReply) → (after_want s t seq r).views ≡ s.views
want_views s t seq want.Opened = refl
want_views s t seq _ = refl

pub check_views : (s : State) (t : Hash) (seq : ℕ) (r : CheckReply) → (after_check s t seq r).views ≡ s.views
check_views s t seq check.Complete = refl
check_views s t seq (check.Need peer places) = refl
check_views s t seq (check.SeqDiffers asked found) = refl
check_views s t seq check.ZeroState = refl
check_views s t seq (check.BelowFloor f) = refl
check_views s t seq (check.Malformed place rule) = refl
check_views s t seq _ = refl

pub tick_views : (s : State) (t : Hash) (r : TickReply) → (after_tick s t r).views ≡ s.views
tick_views s t (tick.Timeout n) = refl
tick_views s t (tick.GaveUp n) = refl
tick_views s t tick.NotOpen = refl

pub edit_views : (half : Half) (s : State) (x : ℕ × ℕ) (t : Hash) (r : EditReply) → (after_edit half s x t r).views ≡ s.views
edit_views half s x t edits.Fine = refl
edit_views half s x t _ = refl

pub begin_views : (s : State) (r : BeginReply) → (after_begin s r).views ≡ s.views
begin_views s (begins.Begun v floor) = refl
begin_views s _ = refl

pub session_views : (s : State) (x : ℕ × ℕ) (change : Session → Session) → (with_session s x change).views ≡ s.views
session_views s x change = at (get_in numbered_cmp s.sessions x)
  where
    at : (o : Option Session)
        → (option_map_or (λ e. record s { sessions = set_in numbered_cmp s.sessions x (change e) }) o s).views ≡ s.views
    at None = refl
    at (Some e) = refl

pub base_views : (half : Half) (s : State) (p : ℕ) (t : Hash) (head : Bytes) (state tx : Option Bytes) (reply : Reply)
    → (after_base half s p t head state tx reply).views ≡ s.views
base_views half s p t head state tx (says.Base (base.Parts h a b)) = forms_views half s (base_forms half (form_in s) t head state tx)
base_views half s p t head state tx _ = refl

pub node_views : (half : Half) (s : State) (p : ℕ) (t : Hash) (kind : Kind) (path : List ℕ) (blob : Bytes) (reply : Reply)
    → (after_node half s p t kind path blob reply).views ≡ s.views
node_views half s p t kind path blob (says.Node (node.One o)) = forms_views half s (node_forms half s t kind path blob)
node_views half s p t kind path blob _ = refl

pub close_views : (half : Half) (s : State) (x : ℕ × ℕ) (given : List ℕ) (reply : Reply) → (after_close half s x given reply).views ≡ s.views
close_views half s x given (says.Close (close.Closed h)) = at (get_in numbered_cmp s.sessions x)
  where
    at : (o : Option Session) → (closed half s x given h o).views ≡ s.views
    at None = refl
    at (Some e) = forms_views half s (closing_forms half e (new_header half s e given))
close_views half s x given _ = refl

pub swap_views : (s : State) (o : Option ℕ) (reply : Reply) (s' : State) → Swaps s o reply s' → s'.views ≡ s.views
swap_views s None reply s' g = after_views s s s' refl g.after
swap_views s (Some v) reply s' g = ap (λ (x : State). x.views) g.1.rest
