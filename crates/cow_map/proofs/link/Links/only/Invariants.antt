use Rattle.cow_map.proofs.Counting.{CountsTo}
use Rattle.cow_map.proofs.link.Links.only.Given as goal

abbrev pub invariant-loop-b : goal.invariant-loop-b
invariant-loop-b l = CountsTo l.self l.b l.only
