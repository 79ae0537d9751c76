use Rattle.ledger_laws.proofs.Completeness.{step_exact}
use Rattle.ledger_laws.proofs.laws.a_check_is_complete_exactly_where_the_ledger_is.Goals as goal

pub returns : goal.returns
returns c = step_exact
