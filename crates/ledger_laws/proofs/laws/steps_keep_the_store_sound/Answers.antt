use Rattle.ledger_laws.proofs.EachCommand.{step_sound}
use Rattle.ledger_laws.proofs.laws.steps_keep_the_store_sound.Goals as goal

pub returns : goal.returns
returns c = λ half is. step_sound half is
