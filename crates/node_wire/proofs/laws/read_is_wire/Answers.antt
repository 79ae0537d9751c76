use Rattle.node_wire.proofs.WireLaws.{read_by_wire}
use Rattle.node_wire.proofs.laws.read_is_wire.Goals as goal

pub returns : goal.returns
returns c = read_by_wire
