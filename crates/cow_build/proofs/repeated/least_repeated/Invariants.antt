use Rattle.cow_build.proofs.Repeats.{Seen}
use Rattle.cow_build.proofs.repeated.least_repeated.Given as goal

abbrev pub invariant-loop-item : goal.invariant-loop-item
invariant-loop-item l = Seen l.items l.item-index l.keys.entries l.least
