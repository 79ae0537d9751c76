-- A section of a command: a slice first, where a swap does one, and then the step.
use Rattle.std.proofs.Common.{◌≡◌, ◌≢◌, ◌⊎◌, inl, inr, ⊎_elim, ◌+◌, ◌≤◌, ◌==◌, ◌&&◌, if◌then◌else◌, ℕ, Bool, true, false, IsTrue}
use Rattle.std.proofs.Common.{[], Result, Ok, Err}
use Rattle.std.proofs.Common.{IfOk, OnErr, Option, None, Some, is_some, length, refl, sym, ap, ◌∙◌, subst, arith}
use Rattle.std.specs.FinMap as finite
use Rattle.std.specs.Option.{option_or}
use Rattle.std.proofs.lemmas.Bool.{false≢true}
use Rattle.std.proofs.lemmas.Bool.Decides.{nat_tests}
use Rattle.ledger_spec.specs.Acquiring.{Acquiring}
use Rattle.ledger_spec.specs.Bytes.{Bytes, Hash, Half, Lookup, Nodes}
use Rattle.ledger_spec.specs.Maps.{ForActor, ForHash}
use Rattle.ledger_spec.specs.Retaining.{Retention}
use Rattle.edit_session.specs.Drafts.{Draft}
use Rattle.rotating_store.specs.Stores.{Store, merged, nodes_of}
use Rattle.rotating_store.specs.declared.outcome.StoreFault.{StoreFault}
use Rattle.rotating_store.proofs.shared.Merging.{get-merged}
use Rattle.copy_walk.specs.Walks.{Walk}
use Rattle.copy_walk.specs.Counts.{CopiesAtMost, IsCopied}
use Rattle.copy_walk.specs.Slices.{Slices, IsCutShort, LeftBy}
use Rattle.copy_walk.specs.declared.walk.Left.{Left}
use Rattle.copy_walk.specs.declared.walk.Left.TheVariants as left
use Rattle.online_rotate.specs.Rotators.{Turning, AfterFinish}
use Rattle.online_rotate.specs.Copying.{CopiesNothing}
use Rattle.ledger_machine.specs.declared.commands.Command.{Command}
use Rattle.ledger_machine.specs.declared.commands.Command.TheVariants as command
use Rattle.ledger_machine.specs.declared.commands.Reply.TheVariants as says
use Rattle.ledger_machine.specs.State.{State}
use Rattle.core_machine.specs.Machines.{with_open}
use Rattle.core_machine.specs.Desks.{Desk, Grows, KeepsRest, KeepsState, OnlyReads, backs, behind, desk_of}
use Rattle.core_machine.specs.Telling.{CopiesBy, CopiesFew, most_copied, most_slices, slice_told}

-- what keeps the rest, one after another
pub rest_then : (s t u : State) → KeepsRest s t → KeepsRest t u → KeepsRest s u
rest_then s t u a b = b ∙ ap (λ (x : State). record x { nodes = u.nodes; born = u.born; shaded = u.shaded }) a

-- what only reads keeps the state
pub reads_keep : (told : Bool) (d d' : Desk) → OnlyReads told d d' → KeepsState told d d'
reads_keep told d d' reads = record {
  same = reads.state;
  rest = reads.tables
      ∙ sym (ap (λ (x : State). record d.state { nodes = d'.state.nodes; born = d'.state.born; shaded = x.shaded }) reads.tables);
  later = reads.later;
}

-- beside open sessions too, where a store that tells what it holds leaves the state
pub open_rest : (half : Half) (tells : Bool) (s s' : State) (drafts : ForActor Draft) → (IsTrue tells → s' ≡ s) → KeepsRest s s'
    → KeepsRest (with_open half tells s drafts) (with_open half tells s' drafts)
open_rest half true s s' drafts same rest =
    subst (λ (x : State). KeepsRest (with_open half true s drafts) (with_open half true x drafts)) (sym (same refl)) refl
open_rest half false s s' drafts same rest = ap (λ (x : State). with_open half false x drafts) rest

-- what grows behind a slice
module _ (d m : Desk) (rest : KeepsRest d.state m.state) (later : d.faults ≤ m.faults) where
  pub grows_here : Grows d m
  grows_here = record {
    later = later;
    few = omega (arith, ap (λ (x : State). length x.listed) rest);
    ages = omega (arith, ap (λ (x : State). x.epoch) rest);
  }

  pub grows_on : (e : Desk) → Grows m e → Grows d e
  grows_on e g = record {
    later = omega (arith, later, g.later);
    few = omega (arith, g.few, ap (λ (x : State). length x.listed) rest);
    ages = omega (arith, g.ages, ap (λ (x : State). x.epoch) rest);
  }

-- ---- what is copied
pub same_number : (n : ℕ) → (n == n) ≡ true
same_number n = grind (arith, nat_tests)

next_number : (m n : ℕ) → m ≡ n + 1 → (m == n) ≡ false
next_number m n e = grind (arith, nat_tests)

-- where the epoch and what the writable backend holds stay
pub behind_same : (d d' : Desk) → d'.state.epoch ≡ d.state.epoch → behind d d' ≡ finite.get d'.written
behind_same d d' epoch =
    ap (λ (n : ℕ). if n == d.state.epoch then finite.get d'.written else finite.get d'.archived) epoch
    ∙ ap (λ (b : Bool). if b then finite.get d'.written else finite.get d'.archived) (same_number d.state.epoch)

-- and where it is the archive now
pub behind_swap : (d d' : Desk) → d'.state.epoch ≡ d.state.epoch + 1 → behind d d' ≡ finite.get d'.archived
behind_swap d d' epoch =
    ap (λ (b : Bool). if b then finite.get d'.written else finite.get d'.archived) (next_number d'.state.epoch d.state.epoch epoch)

-- what the end of a rotation copies where nothing is grey
module _ (wanted : ForHash Acquiring) (views : ForActor Hash) (b b' : Retention) (t t' : Turning) (st st' : Store) where
  pub finish_still : (r : Result ℕ StoreFault) → AfterFinish t b st r t' b' st' → CopiesNothing st r st'
      → behind (desk_of st wanted views b t) (desk_of st' wanted views b' t') ≡ finite.get st.writable
  finish_still (Ok n) left still =
      behind_swap (desk_of st wanted views b t) (desk_of st' wanted views b' t') (left.0.epoch ∙ left.0.new)
      ∙ ap (λ (m : Nodes). finite.get m) still.0
  finish_still (Err why) left still =
      behind_same (desk_of st wanted views b t) (desk_of st' wanted views b' t') left.1.epoch ∙ ap (λ (m : Nodes). finite.get m) still.1.0

-- what a slice copies, and that nothing is left where it says so
module _ (n : ℕ) (w w' : Walk) (s s' : Store) where
  pub slice_few : (r : Result Left StoreFault) → IfOk r (λ l. Slices n w s l w' s') → OnErr r (IsCutShort n w s w' s')
      → CopiesAtMost n (finite.get (nodes_of s)) (finite.get s.writable) (finite.get s'.writable)
  slice_few (Ok l) ok err = ok.strode.few
  slice_few (Err e) ok err = err.strode.few

  pub slice_done : (r : Result Left StoreFault) → IfOk r (λ l. LeftBy l w') → slice_told r ≡ Ok left.Done → w'.grey ≡ []
  slice_done (Ok left.Done) l e = l
  slice_done (Ok left.More) l e = cc
  slice_done (Err why) l e = cc

-- nothing is copied where what both backends hold is as before
module _ (d d' : Desk) (all : d.state.nodes ≡ merged d.written d.archived) (same : backs d' ≡ backs d) where
  held_before : (h : Hash) → finite.get d.state.nodes h ≢ None → finite.get d.written h ≡ None → is_some (finite.get d.archived h) ≡ true
  held_before h stored lacked = at (finite.get d.archived h) (ap (λ (m : Nodes). finite.get m h) all ∙ get-merged d.written d.archived h
      ∙ ap (λ (o : Option Bytes). option_or o (finite.get d.archived h)) lacked)
    where
      at : (o : Option Bytes) → finite.get d.state.nodes h ≡ o → is_some o ≡ true
      at None e = absurd (stored e)
      at (Some form) e = refl

  none_there : (h : Hash) → IsCopied (finite.get d.state.nodes) (finite.get d.written) (behind d d') h → ⊥
  none_there h is = false≢true (
      sym (ap (λ (o : Option Bytes). is_some o && is_some (finite.get d.archived h)) is.lacked)
      ∙ sym (ap (λ (f : Hash → Bool). f h) (ap (λ (x : Nodes × (Hash → Bool) × ℕ). x.1) same))
      ∙ ap (λ (b : Bool). b && is_some (finite.get d'.archived h)) (there (finite.get d'.written h) now)
      ∙ ap (λ (m : Nodes). is_some (finite.get m h)) (ap (λ (x : Nodes × (Hash → Bool) × ℕ). x.0) same)
      ∙ held_before h is.stored is.lacked)
    where
      now : finite.get d'.written h ≢ None
      now none = is.there (ap (λ (f : Lookup). f h) (behind_same d d' (ap (λ (x : Nodes × (Hash → Bool) × ℕ). x.2) same)) ∙ none)

      there : (o : Option Bytes) → o ≢ None → is_some o ≡ true
      there None n = absurd (n refl)
      there (Some x) n = refl

  pub none_copied : CopiesAtMost most_copied (finite.get d.state.nodes) (finite.get d.written) (behind d d')
  none_copied = record { copied = []; few = omega arith; all = λ h is. absurd (none_there h is) }

-- a section copies what its slice did, and no more, but by a swap whose rotation has done its slices
pub copied_few : (c : Command) (d m e : Desk) → d.state.nodes ≡ merged d.written d.archived → m.state.epoch ≡ d.state.epoch
    → CopiesAtMost most_copied (finite.get d.state.nodes) (finite.get d.written) (finite.get m.written)
    → ((c ≡ command.Swap → ⊥) → m ≡ d) → (c ≡ command.Swap → (m.grey ≡ []) ⊎ (most_slices ≤ d.slices)) → CopiesBy c m e
    → CopiesFew c d e
copied_few command.Swap d m e all epoch few none done by = ⊎_elim
    (λ empty. inr (subst (CopiesAtMost most_copied (finite.get d.state.nodes) (finite.get d.written))
    (sym (ap (λ (n : ℕ). if e.state.epoch == n then finite.get e.written else finite.get e.archived) (sym epoch) ∙ by empty)) few))
    (λ sliced. inl (refl, sliced))
    (done refl)
copied_few c d m e all epoch few none done by = inr (none_copied d e all (by ∙ ap backs (none (λ is. cc))))
