use Rattle.std.proofs.Common.{take}
use Rattle.peer_set.specs.Finding.{Finds}
use Rattle.peer_set.proofs.asked.index_from.Given as goal

abbrev pub invariant-loop-at : goal.invariant-loop-at
invariant-loop-at l = Finds l.index.entries l.places (take l.at l.places)
