use Rattle.cow_build.proofs.Cuts.{Cutting}
use Rattle.cow_build.proofs.cut.cut.Given as goal

abbrev pub invariant-loop-b : goal.invariant-loop-b
invariant-loop-b l = Cutting l.fn.items.items l.parts.items l.rest.items l.b
