use Rattle.ledger_searches.proofs.shared.Running.{true_on}
use Rattle.ledger_searches.proofs.laws.growth_keeps_them_true.Goals as goal

pub returns : goal.returns
returns c half before after x up t = true_on half before after x up t
