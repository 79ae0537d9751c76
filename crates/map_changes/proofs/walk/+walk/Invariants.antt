use Rattle.std.proofs.Common.{◌≡◌, ◌++◌, ◌-◌, ◌*◌, ◌+◌, length, map}
use Rattle.std.specs.List.{flat_map, range_with_len}
use Rattle.map_changes.specs.Given.{given}
use Rattle.map_changes.specs.Walks.{shared_nodes}
use Rattle.map_changes.proofs.Walking.{branch_changes}
use Rattle.map_changes.proofs.walk.+walk.Given as goal

-- twice the levels at and below the place, and less for one of its branches
abbrev pub decreases-walk : goal.decreases-walk
decreases-walk g l = 2 * (65 - length l.place)

abbrev pub decreases-walk_branch : goal.decreases-walk_branch
decreases-walk_branch g l = 2 * (64 - length l.place) + 1

abbrev pub invariant-walk-loop-b : goal.invariant-walk-loop-b
invariant-walk-loop-b g l = l.out.items ≡ l.initial.out.items
    ++ map (given g.H.NodeHash.half) (flat_map (branch_changes (g.T.Shared.kid l.tree)
    (shared_nodes (g.T.Shared.held l.tree) (g.T.Shared.kid l.tree)) l.place l.node l.old) (range_with_len 0 l.b))
