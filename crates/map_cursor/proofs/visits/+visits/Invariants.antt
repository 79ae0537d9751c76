use Rattle.std.proofs.Common.{◌≡◌, ◌≤◌, ◌-◌, ◌*◌, ◌+◌, length, IsTrue}
use Rattle.std.specs.FinMap as map
use Rattle.std.specs.List.{range_with_len}
use Rattle.ledger_spec.specs.Pages.{in_turn}
use Rattle.map_cursor.specs.Shown.{shown, HasFurther}
use Rattle.map_cursor.specs.Visits.{Visited, branch_reading}
use Rattle.map_cursor.proofs.visits.+visits.Given as goal

-- thrice the levels below, and more for the loop over the branches, which lie a level lower, and for one of them
abbrev pub decreases-visit : goal.decreases-visit
decreases-visit g l = 3 * (64 - length l.id.now)

abbrev pub decreases-visit_branches : goal.decreases-visit_branches
decreases-visit_branches g l = 3 * (63 - length l.id.now) + 2

abbrev pub decreases-visit_branch : goal.decreases-visit_branch
decreases-visit_branch g l = 3 * (63 - length l.id.now) + 1

-- the branches so far
abbrev pub invariant-visit_branches-loop-b : goal.invariant-visit_branches-loop-b
invariant-visit_branches-loop-b g l = record {
  visited : Visited g.H.NodeHash.half g.S.NodeSource.tells (map.get (g.S.NodeSource.stored l.fn.source))
      (in_turn (branch_reading g.H.NodeHash.half l.query.kind l.query.after (63 - length l.id) l.inner.hashes l.id)
      (range_with_len 0 l.b)) l.query.most
      (shown l.fn.page) (shown l.page);
  further : HasFurther l.query.after l.fn.page → HasFurther l.query.after l.page;
  same : IsTrue g.S.NodeSource.tells → g.S.NodeSource.stored l.source ≡ g.S.NodeSource.stored l.fn.source;
  rest : g.S.NodeSource.rest l.source ≡ g.S.NodeSource.rest l.fn.source;
  later : g.S.NodeSource.faults l.fn.source ≤ g.S.NodeSource.faults l.source;
}
