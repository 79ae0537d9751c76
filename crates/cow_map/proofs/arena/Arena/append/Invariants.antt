use Rattle.std.proofs.Common.{◌≡◌, ◌++◌, length, map, take}
use Rattle.cow_map.specs.Gathered.{moved_body}
use Rattle.cow_map.proofs.arena.Arena.append.Given as goal

abbrev pub invariant-loop-at : goal.invariant-loop-at
invariant-loop-at l = l.self ≡ l.initial.self ++ map (moved_body (length l.initial.self)) (take l.at l.other)
