use Rattle.std.proofs.Common.{arith, length-append}
use Rattle.swarm_gen.proofs.Adds.{adds_as, said_nodes_more}
use Rattle.swarm_gen.proofs.lines.Lines.add_nodes.Goals as goal

-- the count goes up by one with each node, so the lines added are those of the node with this number
pub loop-sent-preserved : goal.loop-sent-preserved
loop-sent-preserved c = let i = c.loop-sent.invariant in record {
  count = simp length-append (omega arith);
  added = adds_as _ _ _ _ _ _ (said_nodes_more c.args.actor c.args.plan.now c.args.target c.args.first c.loop-sent.n c.loop-sent.yielded
      c.in-Some.sent i.count) i.added c.in_ok-add_node.ensures;
}
