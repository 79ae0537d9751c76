-- Nothing that a retained ledger reaches is absent, and each check of a run is exact. For proofs of other crates.
use Rattle.std.proofs.Common.{List}
use Rattle.std.proofs.Common.{[], ◌∷◌, Contains}
use Rattle.ledger_spec.specs.Bytes.{Hash, Half}
use Rattle.ledger_machine.specs.declared.commands.Line.{Line}
use Rattle.ledger_machine.specs.declared.journal.Entry.{Entry}
use Rattle.ledger_machine.specs.State.{State, form_in, retained}
use Rattle.ledger_machine.specs.Sound.{Sound}
use Rattle.ledger_machine.specs.Runs.{Run, used_by}
use Rattle.ledger_machine.specs.Complete.{IsAllStored, AreExact}
use Rattle.ledger_laws.proofs.Closure.{whole_all}
use Rattle.ledger_laws.proofs.Completeness.{step_exact}

-- nothing that a retained ledger of a sound state reaches is absent
pub retained_stored : (half : Half) (s : State) (t : Hash) → Sound half s → Contains (retained s) t → IsAllStored (form_in s) t
retained_stored half s t sound c = whole_all half (form_in s) t (sound.retained_whole t c).whole

-- and so is each check of a run
pub run_exact : (half : Half) (lines : List Line) (s : State) (entries : List Entry) (s' : State) (run : Run half lines s entries s')
    → AreExact half lines s entries s' run
run_exact half lines s [] s' run = tt
run_exact half lines s (e ∷ rest) s' run =
    (step_exact half s run.0 e.actor run.1.line.command e.reply (used_by e) run.1.step, run_exact half lines run.0 rest s' run.2)
