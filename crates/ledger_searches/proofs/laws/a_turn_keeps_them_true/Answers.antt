use Rattle.ledger_searches.proofs.shared.Running.{true_turned}
use Rattle.ledger_searches.proofs.laws.a_turn_keeps_them_true.Goals as goal

pub returns : goal.returns
returns c half before after x x' turned t = true_turned half before after x x' turned t
