use Rattle.ledger_laws.proofs.shared.EveryMaps.{reads_exact}
use Rattle.ledger_laws.proofs.laws.the_reads_of_a_run_are_every_maps.Goals as goal

pub returns : goal.returns
returns c = reads_exact
