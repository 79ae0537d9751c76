use Rattle.ledger_laws.proofs.BesideRows.{row_beside}
use Rattle.ledger_laws.proofs.laws.a_row_is_one_beside_any_sessions.Goals as goal

pub returns : goal.returns
returns c = row_beside
