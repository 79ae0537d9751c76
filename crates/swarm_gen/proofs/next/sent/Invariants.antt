use Rattle.std.proofs.Common.{◌≡◌, map}
use Rattle.swarm_gen.specs.Sending.{sent, below}
use Rattle.swarm_gen.proofs.next.sent.Given as goal

abbrev pub invariant-loop-node : goal.invariant-loop-node
invariant-loop-node l = l.sent.items ≡ map (sent l.kind) (below l.yielded)
