-- What calls of a rotator promise of the store and the walk.
use Rattle.std.specs.Prelude.{◌≡◌, ◌+◌, Bool, IsTrue, IsSome, false, List, [], Result, OnOk, OnErr}
use Rattle.ledger_spec.specs.Bytes.{Hash}
use Rattle.ledger_spec.specs.Retaining.{Retention, due}
use Rattle.rotating_store.specs.Stores.{Store, AddsAtMostOne, HasNoNewNotes, KeepsNotes}
use Rattle.rotating_store.specs.declared.outcome.StoreFault.{StoreFault}
use Rattle.copy_walk.specs.Walks.{Walk}
use Rattle.copy_walk.specs.Slices.{SameRest}
use Rattle.copy_walk.specs.declared.walk.Left.{Left}
use Rattle.online_rotate.specs.Rotators.{Turning, SlicesBy}
use Rattle.online_rotate.specs.Copying.{IsFit, IsWalking, CopiesSome, CountsOn, Rotated, AfterRotation, AfterFit, CopiesNothing}

-- where memory is refused nothing has changed, and it was asked for only where a rotation would begin
pub record LeavesUnbegun {X E : Type 0} (t : Turning) (b : Retention) (result : Result X E) (t' : Turning) (b' : Retention) : Type 0 where
  pub same : OnErr result ((t' ≡ t) × (b' ≡ b))
  pub asked : OnErr result ((t.turning ≡ false) × IsSome (due b))

-- a slice leaves the rotation under way, and its walk one that copies what the hashes reach
pub record GoesOnBy {E : Type 0} (tells : Bool) (t : Turning) (s : Store) (result : Result Left E) (t' : Turning) (s' : Store)
    : Type 0 where
  pub walks : IsTrue tells → IsWalking t.shaded t.walk s → CopiesSome t.shaded s s' × IsWalking t.shaded t'.walk s'
  pub counts : SlicesBy t result t'

-- what the end of a rotation leaves of the store, and a refused one of the walk too, by the hashes that it was told to keep
pub record EndsBy {X : Type 0} (tells : Bool) (told : List Hash) (w : Walk) (s : Store) (result : Result X StoreFault) (w' : Walk)
    (s' : Store) : Type 0 where
  pub nodes : IsTrue tells → IsWalking told w s → AfterRotation told s result s'
  pub fit : IsTrue tells → IsWalking told w s → IsFit told s → AfterFit told s result s'
  pub walks : IsTrue tells → IsWalking told w s → OnErr result (IsWalking told w' s')
  pub notes : IsTrue tells → OnOk result (KeepsNotes s s')
  pub still : IsTrue tells → w.grey ≡ [] → CopiesNothing s result s'
  pub counts : CountsOn s s' result

-- the same of a walk alone, whatever it was told to keep
pub record Rotates {X E : Type 0} (tells : Bool) (w : Walk) (s : Store) (result : Result X E) (w' : Walk) (s' : Store) : Type 0 where
  pub rotated : IsTrue tells → (told : List Hash) → IsWalking told w s → OnOk result (Rotated told s s')
  pub some : IsTrue tells → (told : List Hash) → IsWalking told w s → OnErr result (CopiesSome told s s' × IsWalking told w' s')
  pub notes : IsTrue tells → OnOk result (KeepsNotes s s')
  pub still : IsTrue tells → w.grey ≡ [] → CopiesNothing s result s'

-- the next epoch has begun, with no new notes, and of the shelf's numbers at most one went into the second list; or all of this is as
-- before, with what is past and what is ready
pub record TurnsOrStays {X E : Type 0} (s : Store) (result : Result X E) (s' : Store) : Type 0 where
  pub ok : OnOk result ((s'.epoch ≡ s.epoch + 1) × HasNoNewNotes s s' × (s'.spare ≡ s.spare) × AddsAtMostOne s.undone s'.undone)
  pub err : OnErr result (SameRest s s')
