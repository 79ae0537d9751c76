-- Runs of one more step. For proofs of other crates.
use Rattle.std.proofs.Common.{List, [], ◌∷◌, ◌++◌, subst, refl}
use Rattle.ledger_spec.specs.Bytes.{Half}
use Rattle.ledger_machine.specs.declared.commands.Line.{Line}
use Rattle.ledger_machine.specs.declared.journal.Entry.{Entry}
use Rattle.ledger_machine.specs.State.{State}
use Rattle.ledger_machine.specs.Runs.{Run, Answers}

-- a run goes on by one step
pub run_more : (half : Half) (lines : List Line) (s mid s' : State) (entries : List Entry) (e : Entry)
    → Run half lines s entries mid → Answers half lines mid e s' → Run half lines s (entries ++ e ∷ []) s'
run_more half lines s mid s' [] e same step = (s', let P : State → Type 0 = λ x. Answers half lines x e s' in subst P same step, refl)
run_more half lines s mid s' (f ∷ rest) e run step = (run.0, run.1, run_more half lines run.0 mid s' rest e run.2 step)
