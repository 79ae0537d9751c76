use Rattle.audit_core.proofs.shared.Twins.{wholes_are_one}
use Rattle.audit_core.proofs.laws.wholes_of_one_hash_are_one.Goals as goal

pub returns : goal.returns
returns c = wholes_are_one
