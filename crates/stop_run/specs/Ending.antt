-- How a run on disks that stop ended.
use Rattle.std.specs.Prelude.{◌⊎◌, ◌<◌, Bool, true, false, IsTrue, Option}
use Rattle.log_shelf.specs.declared.shelf.Unmade.TheVariants as unmade
use Rattle.rotating_store.specs.declared.store.Unopened.TheVariants as unopened
use Rattle.store_core.specs.Journal.{CoreView}
use Rattle.stop_run.specs.declared.ended.StopEnd.{StopEnd}
use Rattle.stop_run.specs.declared.ended.StopEnd.TheVariants as ends

module _ {H : Type 0} where
  -- a fact of the core of a run and the one that was opened again, or another one where there was no run
  abbrev pub MatchEnd : StopEnd H → (CoreView → Option CoreView → Type 0) → (StopEnd H → Type 0) → Type 0
  MatchEnd (ends.Ran c d) run other = run c d
  MatchEnd (ends.Unopened u) run other = other (ends.Unopened u)
  MatchEnd (ends.Unmade u) run other = other (ends.Unmade u)

  -- nothing is left, since memory was wanted
  abbrev pub wanted_memory : StopEnd H → Bool
  wanted_memory (ends.Unopened unopened.Memory) = true
  wanted_memory (ends.Unmade unmade.Memory) = true
  wanted_memory _ = false

  -- what is left is a room, a disk, a shelf or a store whose count of faults is above 0
  abbrev pub HasFailed : StopEnd H → Type 0
  HasFailed (ends.Unopened (unopened.Shelf s)) = 0 < s.faults
  HasFailed (ends.Unopened (unopened.Store t)) = 0 < t.faults
  HasFailed (ends.Unmade (unmade.Room r)) = 0 < r.faults
  HasFailed (ends.Unmade (unmade.Manifest r d)) = 0 < d.faults
  HasFailed _ = ⊥

  -- there was no run, and the cause is known
  abbrev pub IsExplained : StopEnd H → Type 0
  IsExplained e = MatchEnd e (λ c d. ⊥) (λ e. HasFailed e ⊎ IsTrue (wanted_memory e))
