use Rattle.node_wire.proofs.WireLaws.{one_node}
use Rattle.node_wire.proofs.laws.one_wire_node.Goals as goal

pub returns : goal.returns
returns c = one_node
