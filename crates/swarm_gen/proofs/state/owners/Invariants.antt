use Rattle.std.proofs.Common.{◌≡◌, map, []}
use Rattle.std.specs.List.{range_with_len}
use Rattle.swarm_gen.specs.Ledgers.{key, map_from}
use Rattle.swarm_gen.proofs.state.owners.Given as goal

abbrev pub invariant-loop-i : goal.invariant-loop-i
invariant-loop-i g l = l.owners.entries ≡ map_from [] (map (λ i. (key g.H.NodeHash.half l.plan i, i)) (range_with_len 1 l.i))
