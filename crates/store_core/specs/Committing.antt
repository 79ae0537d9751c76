-- What a section of an actor's next line comes to, also where a reader hands something in.
use Rattle.std.specs.Prelude.{◌≡◌, ◌≢◌, ◌⊎◌, ◌↔◌, ◌≤◌, ℕ, Bool, IsTrue, Result, Err, length}
use Rattle.ledger_spec.specs.Bytes.{Half}
use Rattle.path_proof.specs.declared.answer.Answer.{Answer}
use Rattle.path_proof.specs.declared.answer.ReadFault.{ReadFault}
use Rattle.path_proof.specs.declared.answer.ReadFault.TheVariants as faults
use Rattle.ledger_machine.specs.Runs.{IsBlocked, IsDone}
use Rattle.run_io.specs.Bytes.{Rose}
use Rattle.store_core.specs.Failing.{is_among}
use Rattle.store_core.specs.Journal.{CoreView, AdvancesFor, Slices, ChecksFew, CopiesFew}
use Rattle.store_core.specs.declared.core_calls.Stepped.{Stepped}
use Rattle.store_core.specs.declared.core_calls.Stepped.TheVariants.{Answered, More, Blocked, Finished}

-- What every section says: it is blocked exactly where the actor's next line waits for one that has no entry, and finished exactly where
-- there is none; then nothing is changed. No more slices are counted than before, but behind one that left something, and there is at most
-- an entry for each line.
pub record ComesTo (old : CoreView) (a : ℕ) (stepped : Stepped) (new : CoreView) : Type 0 where
  pub blocked : (stepped ≡ Blocked) ↔ IsBlocked old.lines old.journal a
  pub finished : (stepped ≡ Finished) ↔ IsDone old.lines old.journal a
  pub unchanged : (stepped ≡ Blocked) ⊎ (stepped ≡ Finished) → new ≡ old
  pub slices : stepped ≢ More → new.slices ≤ old.slices
  pub few : length new.journal ≤ length new.lines

-- a section copies no more than a slice does, and asks the backends no more often
pub record IsShort (told : Bool) (old : CoreView) (a : ℕ) (new : CoreView) : Type 0 where
  pub copies : IsTrue told → CopiesFew old a new
  pub asks : ChecksFew old a new

-- It is a section of the actor's next line, as `step` does one, but that a `fault` may also be the one that was handed in, where the
-- actor's fetch failed.
pub record Commits (half : Half) (told : Bool) (old : CoreView) (a : ℕ) (got : Result Answer ReadFault) (stepped : Stepped)
    (new : CoreView) : Type 0 where
  pub answered : stepped ≡ Answered
      → AdvancesFor half told (Rose old.faults new.faults ⊎ ((got ≡ Err faults.Fault) × IsTrue (is_among a old.failed))) old a new
  pub more : stepped ≡ More → Slices half told old a new
  pub short : IsShort told old a new
