-- What contracts see of a rotator.
use Rattle.std.specs.Prelude.{◌≡◌, ◌↔◌, ◌⊎◌, ◌+◌, ◌-◌, ◌^◌, ℕ, Bool, true, false, min, List, [], Option, None, Some, is_some}
use Rattle.std.specs.Prelude.{Result, Ok, Err, IfOk, OnErr}
use Rattle.std.specs.List.{Contains}
use Rattle.ledger_spec.specs.Bytes.{Hash}
use Rattle.ledger_spec.specs.Retaining.{Retention, IsRootFrom, after_begin, after_finish, floor_behind}
use Rattle.rotating_store.specs.Stores.{Store, HasNoNewNotes, AddsAtMostOne}
use Rattle.rotating_store.specs.declared.outcome.StoreFault.{StoreFault}
use Rattle.copy_walk.specs.Walks.{Walk}
use Rattle.copy_walk.specs.Walks as walks
use Rattle.copy_walk.specs.declared.walk.Left.{Left}
use Rattle.copy_walk.specs.declared.walk.Left.TheVariants as left
use Rattle.online_rotate.specs.declared.rotator.Begun.{Begun}
use Rattle.online_rotate.specs.declared.rotator.Begun.TheVariants as begun

-- nothing is shaded
abbrev pub no_walk : Walk
no_walk = record { grey = []; black = [] }

-- whether a rotation is under way, the hashes that it was told to keep, its walk, and how many of its slices left something
pub record Turning : Type 0 where
  pub turning : Bool
  pub shaded : List Hash
  pub walk : Walk
  pub slices : ℕ

-- no rotation is under way
abbrev pub at_rest : Turning
at_rest = record { turning = false; shaded = []; walk = no_walk; slices = 0 }

-- the book has a rotation under way exactly where the rotator has
abbrev pub InStep : Turning → Retention → Type 0
InStep t b = t.turning ≡ is_some b.turning

-- the answer to `begin`: busy where a rotation is under way, and else by the sequence at which one is due
abbrev pub begun_by : Bool → Option ℕ → Option ℕ → Begun
begun_by true seq last = begun.Busy
begun_by false None last = begun.NotDue
begun_by false (Some seq) last = begun.Begun seq (floor_behind last)

-- the rotation begins, and was told to keep the roots for the new floor and these targets, at which its walk begins
pub record Begins (b : Retention) (targets : List Hash) (t : Turning) : Type 0 where
  pub under_way : t.turning ≡ true
  pub none_sliced : t.slices ≡ 0
  pub told : (h : Hash) → Contains t.shaded h ↔ (IsRootFrom b (floor_behind b.last) h ⊎ Contains targets h)
  pub walk : t.walk ≡ record { grey = t.shaded; black = [] }

-- what `begin` leaves of the rotator, and of the book
abbrev pub AfterBegin : Retention → List Hash → Turning → Begun → Retention → Turning → Type 0
AfterBegin b targets t (begun.Begun seq floor) b' t' = (b' ≡ after_begin b) × Begins b targets t'
AfterBegin b targets t begun.NotDue b' t' = (b' ≡ b) × (t' ≡ t)
AfterBegin b targets t begun.Busy b' t' = (b' ≡ b) × (t' ≡ t)

-- the rotation was told to keep this hash too, and takes it
pub record Shades (t : Turning) (h : Hash) (t' : Turning) : Type 0 where
  pub told : (q : Hash) → Contains t'.shaded q ↔ (Contains t.shaded q ⊎ (q ≡ h))
  pub walk : walks.Shades t.walk h t'.walk
  pub rest : t' ≡ record t { shaded = t'.shaded; walk = t'.walk }

-- the rotation takes this hash too
pub record Heeds (t : Turning) (h : Hash) (t' : Turning) : Type 0 where
  pub walk : walks.Shades t.walk h t'.walk
  pub rest : t' ≡ record t { walk = t'.walk }

-- how many slices of a rotation left something, after one more: the count stands still at its type's end
abbrev pub slices_after : Left → ℕ → ℕ
slices_after left.More n = min (n + 1) (2 ^ 32 - 1)
slices_after left.Done n = n

-- a slice leaves the rotation under way, and counts where it left something
abbrev pub SlicesBy : {E : Type 0} → Turning → Result Left E → Turning → Type 0
SlicesBy t (Ok l) t' = t' ≡ record t { walk = t'.walk; slices = slices_after l t.slices }
SlicesBy t (Err e) t' = t' ≡ record t { walk = t'.walk }

-- The rotation is over, and with it the epoch. Nothing is noted that wasn't, no number of the shelf but those of the store's backends
-- left the first list, and at most one went into the second.
pub record Ends (t : Turning) (b : Retention) (s : Store) (answer : ℕ) (t' : Turning) (b' : Retention) (s' : Store) : Type 0 where
  pub rotator : t' ≡ record t { turning = false; shaded = []; walk = no_walk }
  pub book : b' ≡ after_finish b
  pub new : answer ≡ s.epoch + 1
  pub epoch : s'.epoch ≡ answer
  pub notes : HasNoNewNotes s s'
  pub spare : s'.spare ≡ s.spare
  pub undone : AddsAtMostOne s.undone s'.undone

-- The rotation is under way as before, in the same epoch, though its walk may have gone on. A backend that was made ready for the next swap
-- still is, and none is where none was; no backend was discarded, so what is counted of such ones is as before, and none was taken from the
-- shelf but for the store.
pub record GoesOn (t : Turning) (b : Retention) (s : Store) (t' : Turning) (b' : Retention) (s' : Store) : Type 0 where
  pub rotator : t' ≡ record t { walk = t'.walk }
  pub book : b' ≡ b
  pub epoch : s'.epoch ≡ s.epoch
  pub ready : s'.ready ≡ s.ready
  pub past : (s'.past_faults ≡ s.past_faults) × (s'.past_gets ≡ s.past_gets)
  pub spare : s'.spare ≡ s.spare
  pub undone : s'.undone ≡ s.undone
  pub notes : s'.noted ≡ s.noted

-- what `finish` leaves of the rotator, of the book, and of the store's epoch and notes
abbrev pub AfterFinish : Turning → Retention → Store → Result ℕ StoreFault → Turning → Retention → Store → Type 0
AfterFinish t b s r t' b' s' = IfOk r (λ epoch. Ends t b s epoch t' b' s') × OnErr r (GoesOn t b s t' b' s')
