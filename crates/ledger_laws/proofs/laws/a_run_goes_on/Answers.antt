use Rattle.ledger_laws.proofs.shared.RunLaws.{run_more}
use Rattle.ledger_laws.proofs.laws.a_run_goes_on.Goals as goal

pub returns : goal.returns
returns c = run_more
