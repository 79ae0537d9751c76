-- What reading a script leaves of its source.
use Rattle.std.specs.Prelude.{◌≤◌, ℕ, Option}
use Rattle.run_io.specs.Bytes.{TookPart}
use Rattle.ledger_spec.specs.Bytes.{Bytes}
use Rattle.script_form.specs.Grammar.{most_read}

-- a front of what was left is gone, no more than is read at most, and the count of faults doesn't fall
pub record LeavesInput (left left' : Option Bytes) (faults faults' : ℕ) : Type 0 where
  pub taken : TookPart left left' most_read
  pub later : faults ≤ faults'
