use Rattle.std.proofs.Common.{◌-◌, ◌*◌, ◌+◌, ◌≤◌, length}
use Rattle.cow_map.specs.Taking.{Grows}
use Rattle.cow_map.proofs.Taking.{Halfway}
use Rattle.cow_map.proofs.sorted.+gather.Given as goal

-- twice the levels below, and one more for the step from a place to the inner node there
abbrev pub decreases-inner_of : goal.decreases-inner_of
decreases-inner_of l = 2 * (64 - length l.id.now)

abbrev pub decreases-link_of : goal.decreases-link_of
decreases-link_of l = 2 * (64 - length l.id.now) + 1

abbrev pub invariant-inner_of-loop-b : goal.invariant-inner_of-loop-b
invariant-inner_of-loop-b l = record {
  within : l.b ≤ 16;
  grows : Grows l.fn.arena l.arena;
  halfway : Halfway l.id l.fn.rest.items l.rest.items l.arena l.links l.b;
}

abbrev pub decreases-inner_of-loop-b : goal.decreases-inner_of-loop-b
decreases-inner_of-loop-b l = l.b
