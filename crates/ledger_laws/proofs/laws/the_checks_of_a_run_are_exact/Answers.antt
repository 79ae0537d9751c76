use Rattle.ledger_laws.proofs.shared.Completeness.{run_exact}
use Rattle.ledger_laws.proofs.laws.the_checks_of_a_run_are_exact.Goals as goal

pub returns : goal.returns
returns c = run_exact
