use Rattle.ledger_laws.proofs.shared.Carrying.{step_told}
use Rattle.ledger_laws.proofs.laws.a_step_carries_what_was_told.Goals as goal

pub returns : goal.returns
returns c = step_told
