use Rattle.node_wire.proofs.WireLaws.{written_is_read}
use Rattle.node_wire.proofs.laws.written_is_read.Goals as goal

pub returns : goal.returns
returns c = written_is_read
