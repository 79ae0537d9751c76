use Rattle.page_audit.proofs.Twins.{runs_give_twins}
use Rattle.page_audit.proofs.laws.whole_runs_give_one_ledger.Goals as goal

pub returns : goal.returns
returns c = runs_give_twins
