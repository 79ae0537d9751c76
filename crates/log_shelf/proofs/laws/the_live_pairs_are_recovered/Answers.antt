use Rattle.log_shelf.proofs.Recovery.{pairs_recovered}
use Rattle.log_shelf.proofs.laws.the_live_pairs_are_recovered.Goals as goal

pub returns : goal.returns
returns c = pairs_recovered
