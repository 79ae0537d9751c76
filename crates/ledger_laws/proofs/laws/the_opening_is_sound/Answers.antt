use Rattle.ledger_laws.proofs.Soundness.{opening_is_sound}
use Rattle.ledger_laws.proofs.laws.the_opening_is_sound.Goals as goal

pub returns : goal.returns
returns c = opening_is_sound
