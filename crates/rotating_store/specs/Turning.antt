-- What a swap does, and what makes ready for it.
use Rattle.std.specs.Prelude.{◌≡◌, ◌≤◌, ◌+◌, Bool, IsTrue, true, false, Result, Err, IsOk, IfErr, OnOk, OnErr}
use Rattle.std.specs.FinMap as finite
use Rattle.run_io.specs.Bytes.{Rose}
use Rattle.rotating_store.specs.Stores.{Store, nodes_of, AddsAtMostOne, HasNoNewNotes, KeepsNotes, RoseByShelf}
use Rattle.rotating_store.specs.Puts.{IsPlain}
use Rattle.rotating_store.specs.declared.outcome.StoreFault.{StoreFault}
use Rattle.rotating_store.specs.declared.outcome.StoreFault.TheVariants as fault

-- a fresh backend is ready, or after an error as before; one that was ready stays, and none is asked for
pub record HasReady {X E : Type 0} (s t : Store) (result : Result X E) : Type 0 where
  pub ready : OnOk result (t.ready ≡ true)
  pub unready : OnErr result (t.ready ≡ s.ready)
  pub was_ready : s.ready ≡ true → OnOk result (t ≡ s) × IsOk result

-- the count of faults doesn't fall, and rises by the shelf's own alone
pub record CountsShelf (s t : Store) : Type 0 where
  pub later : s.faults ≤ t.faults
  pub counted : RoseByShelf s t

-- a refusal is for want of memory, or a fault, with which the count of faults rose
pub record FailsPlainly {X : Type 0} (s t : Store) (result : Result X StoreFault) : Type 0 where
  pub cause : result ≡ Err fault.Fault → Rose s.faults t.faults
  pub kind : IfErr result IsPlain

-- the writable map is all that is held, as the archive's; the new writable one is empty
pub record MovesDown (tells : Bool) (s t : Store) : Type 0 where
  pub nodes : IsTrue tells → nodes_of t ≡ s.writable
  pub archive : IsTrue tells → t.archive ≡ s.writable
  pub writable : IsTrue tells → t.writable ≡ finite.empty

-- The next epoch has begun, with no backend ready, and the counts of what is past don't fall. Where the shelf can't discard the old
-- backend, its number goes into the second list, and the count of faults rises by the shelf's own alone.
pub record Turns (s t : Store) : Type 0 where
  pub ready : t.ready ≡ false
  pub epoch : t.epoch ≡ s.epoch + 1
  pub later : s.faults ≤ t.faults
  pub counted : RoseByShelf s t
  pub gets : t.gets ≡ s.gets
  pub spare : t.spare ≡ s.spare
  pub undone : AddsAtMostOne s.undone t.undone
  pub past : (s.past_faults ≤ t.past_faults) × (s.past_gets ≤ t.past_gets)

-- what is still held keeps its notes, and there are no new ones
pub record TurnsNotes (tells : Bool) (s t : Store) : Type 0 where
  pub kept : IsTrue tells → KeepsNotes s t
  pub no_more : HasNoNewNotes s t
