use Rattle.std.proofs.Common.{sym, arith}
use Rattle.nib_path.proofs.Reading.{zeros-IsNodeId}
use Rattle.nib_path.proofs.NodeId.of_parts.Goals as goal

pub invariant_of-result : goal.invariant_of-result
invariant_of-result c = zeros-IsNodeId c.args.id.now c.args.depth c.told-id (omega arith) (sym c.in-None.ensures)
