use Rattle.std.proofs.Common.{vec_len}
use Rattle.cow_build.proofs.Joined.{Builds}
use Rattle.cow_build.proofs.threads.build_parts.Given as goal

abbrev pub invariant-loop-alloc : goal.invariant-loop-alloc
invariant-loop-alloc g l = Builds l.kind l.fn.parts.items l.maps.items l.rest.items

abbrev pub decreases-loop-alloc : goal.decreases-loop-alloc
decreases-loop-alloc g l = vec_len l.rest
