use Rattle.plain_audit.proofs.Twins.{runs_are_twins}
use Rattle.plain_audit.proofs.laws.whole_runs_of_one_hash_are_of_one_ledger.Goals as goal

pub returns : goal.returns
returns c = runs_are_twins
