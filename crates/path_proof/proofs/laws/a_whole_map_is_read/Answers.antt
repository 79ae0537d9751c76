use Rattle.path_proof.proofs.shared.WholeReads.{whole_read}
use Rattle.path_proof.proofs.laws.a_whole_map_is_read.Goals as goal

pub returns : goal.returns
returns c = whole_read
