use Rattle.std.proofs.Common.{◌≡◌, take}
use Rattle.cow_map.specs.Shown.{bodies_of}
use Rattle.cow_map.proofs.arena.Arena.copy.Given as goal

abbrev pub invariant-loop-node : goal.invariant-loop-node
invariant-loop-node l = bodies_of l.nodes.items ≡ bodies_of (take l.node-index l.node-items)
