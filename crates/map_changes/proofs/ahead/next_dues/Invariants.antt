use Rattle.std.specs.List.{All}
use Rattle.map_changes.specs.Rounds.{HasForm}
use Rattle.map_changes.proofs.ahead.next_dues.Given as goal

abbrev pub invariant-loop-at : goal.invariant-loop-at
invariant-loop-at g l = record {
  forms : All (HasForm g.H.NodeHash.half l.map.kind l.map.nodes) l.dues.items;
}
