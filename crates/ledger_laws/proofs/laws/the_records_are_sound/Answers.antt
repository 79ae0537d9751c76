use Rattle.ledger_laws.proofs.shared.Openings.{records_are_sound}
use Rattle.ledger_laws.proofs.laws.the_records_are_sound.Goals as goal

pub returns : goal.returns
returns c = records_are_sound
