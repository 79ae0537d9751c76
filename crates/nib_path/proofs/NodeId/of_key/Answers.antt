use Rattle.nib_path.proofs.Places.{head-IsNodeId, head-path}
use Rattle.nib_path.proofs.NodeId.of_key.Goals as goal

pub invariant_of-result : goal.invariant_of-result
invariant_of-result c = head-IsNodeId c.head_of.result c.args.key.now c.args.depth c.requires c.told-key c.head_of.ensures

pub returns : goal.returns
returns c = head-path c.head_of.result c.args.key.now c.args.depth c.requires c.told-key c.head_of.ensures
