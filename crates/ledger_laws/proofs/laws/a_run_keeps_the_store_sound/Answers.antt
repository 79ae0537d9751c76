use Rattle.ledger_laws.proofs.SoundRuns.{run_sound}
use Rattle.ledger_laws.proofs.laws.a_run_keeps_the_store_sound.Goals as goal

pub returns : goal.returns
returns c = λ half is. run_sound half is
