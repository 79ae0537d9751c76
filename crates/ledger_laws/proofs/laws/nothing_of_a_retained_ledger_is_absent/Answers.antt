use Rattle.ledger_laws.proofs.shared.Completeness.{retained_stored}
use Rattle.ledger_laws.proofs.laws.nothing_of_a_retained_ledger_is_absent.Goals as goal

pub returns : goal.returns
returns c = retained_stored
