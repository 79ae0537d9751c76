use Rattle.std.proofs.Common.{◌≡◌, ◌<◌, ◌++◌, ◌∷◌, [], ℕ, List, Option, map, length, sym, ap, ◌∙◌, arith}
use Rattle.std.proofs.Common.{append-nil, rules, length-append}
use Rattle.std.specs.Prelude.{IsNone}
use Rattle.std.specs.List.{flat_map, range_with_len}
use Rattle.map_changes.specs.Placed.{Placed, changed}
use Rattle.map_changes.specs.Given.{given}
use Rattle.map_changes.specs.Walks.{old_kid, itself, shared_nodes}
use Rattle.map_changes.proofs.Walking.{shared_say, walk_is, branch_changes, branch_more, listed_all}
use Rattle.map_changes.proofs.Changed.{changed_same}
use Rattle.map_changes.proofs.walk.+walk.Goals as goal

-- both maps have the same node here, so the same nodes below it, and none has changed
pub walk-returns-then-is_shared : goal.walk-returns-then-is_shared
walk-returns-then-is_shared g t c =
    let same = c.if-is_shared.ensures in
    let nodes = shared_nodes (g.T.Shared.held c.args.tree.now) (g.T.Shared.kid c.args.tree.now) in
    let none : changed (nodes c.args.old c.args.place) (nodes c.args.new c.args.place) ≡ [] =
    ap (λ (o : Option ℕ). changed (nodes c.args.old c.args.place) (nodes o c.args.place)) (c.in-Some.is ∙ same)
    ∙ changed_same (nodes c.args.old c.args.place) in
    sym (append-nil c.args.out.now.items) ∙ ap (λ (x : List Placed). c.args.out.now.items ++ map (given g.H.NodeHash.half) x) (sym none)

-- a branch adds what has changed below it
pub walk-loop-b-preserved : goal.walk-loop-b-preserved
walk-loop-b-preserved g t c =
    let tree = c.args.tree.now in
    let nodes = shared_nodes (g.T.Shared.held tree) (g.T.Shared.kid tree) in
    branch_more (given g.H.NodeHash.half) (branch_changes (g.T.Shared.kid tree) nodes c.args.place c.in-Some.node c.args.old) c.loop-b.b
    c.list_itself.new.out.items c.loop-b.out.items c.walk_branch.new.out.items c.loop-b.invariant c.in_ok-walk_branch.ensures

-- the map has no node at the branch or below, so there is none that could have changed
pub walk_branch-returns-in_default : goal.walk_branch-returns-in_default
walk_branch-returns-in_default g t c =
    let held = g.T.Shared.held c.args.tree.now in
    let kid = g.T.Shared.kid c.args.tree.now in
    let place : List ℕ = c.args.place ++ c.args.b ∷ [] in
    let before = shared_nodes held kid (old_kid kid c.args.old c.args.b) place in
    let none : changed before (shared_nodes held kid (kid c.args.node c.args.b) place) ≡ [] =
    ap (λ (o : Option ℕ). changed before (shared_nodes held kid o place)) (sym c.child.ensures ∙ c.in_default.is)
    ∙ ap (λ (x : List Placed). changed before x) ((shared_say held kid).none place) in
    sym (append-nil c.args.out.now.items) ∙ ap (λ (x : List Placed). c.args.out.now.items ++ map (given g.H.NodeHash.half) x) (sym none)

-- and below depth 64 no branch has nodes
pub walk_branch-returns-in_default-child : goal.walk_branch-returns-in_default-child
walk_branch-returns-in_default-child g t c =
    let held = g.T.Shared.held c.args.tree.now in
    let kid = g.T.Shared.kid c.args.tree.now in
    let place : List ℕ = c.args.place ++ c.args.b ∷ [] in
    let before = shared_nodes held kid (old_kid kid c.args.old c.args.b) place in
    let no_place : IsNone c.child-2.result = search rules in
    let deep : 64 < length place = omega (arith, length-append c.args.place (c.args.b ∷ []), c.child-2.ensures.none.0 no_place) in
    let none : changed before (shared_nodes held kid (kid c.args.node c.args.b) place) ≡ [] =
    ap (λ (x : List Placed). changed before x) ((shared_say held kid).bottom (kid c.args.node c.args.b) place deep) in
    sym (append-nil c.args.out.now.items) ∙ ap (λ (x : List Placed). c.args.out.now.items ++ map (given g.H.NodeHash.half) x) (sym none)

-- the changes here are the node itself, if the old one has another form, and then those of its sixteen branches
pub walk-returns : goal.walk-returns
walk-returns g t c =
    let half = g.H.NodeHash.half in
    let tree = c.args.tree.now in
    let held = g.T.Shared.held tree in
    let kid = g.T.Shared.kid tree in
    let says = shared_say held kid in
    let all : 16 ≡ c.loop-b.b = omega arith in
    let xs = branch_changes (g.T.Shared.kid tree) (shared_nodes (g.T.Shared.held tree) (g.T.Shared.kid tree)) c.args.place c.in-Some.node
    c.args.old in
    listed_all (given half) (itself (g.T.Shared.held tree) c.args.place c.in-Some.node c.args.old) _ (flat_map xs (range_with_len 0 16))
    c.args.out.now.items c.list_itself.new.out.items c.loop-b.out.items
    (ap (λ (o : Option ℕ). changed (shared_nodes (g.T.Shared.held tree) (g.T.Shared.kid tree) c.args.old c.args.place)
    (shared_nodes (g.T.Shared.held tree) (g.T.Shared.kid tree) o c.args.place)) c.in-Some.is
    ∙ walk_is (g.T.Shared.held tree) (g.T.Shared.kid tree) (shared_nodes (g.T.Shared.held tree) (g.T.Shared.kid tree)) c.args.place
    c.in-Some.node c.args.old says c.known.ensures.short)
    c.in_ok-list_itself.ensures
    (c.loop-b.invariant ∙ ap (λ n. c.list_itself.new.out.items ++ map (given half) (flat_map xs (range_with_len 0 n))) (sym all))

-- the map has no node here or below, so there is none that could have changed
pub walk-returns-in_default : goal.walk-returns-in_default
walk-returns-in_default g t c =
    let nodes = shared_nodes (g.T.Shared.held c.args.tree.now) (g.T.Shared.kid c.args.tree.now) in
    let none : changed (nodes c.args.old c.args.place) (nodes c.args.new c.args.place) ≡ [] =
    ap (λ (o : Option ℕ). changed (nodes c.args.old c.args.place) (nodes o c.args.place)) c.in_default.is
    ∙ ap (λ (x : List Placed). changed (nodes c.args.old c.args.place) x)
    ((shared_say (g.T.Shared.held c.args.tree.now) (g.T.Shared.kid c.args.tree.now)).none c.args.place) in
    sym (append-nil c.args.out.now.items) ∙ ap (λ (x : List Placed). c.args.out.now.items ++ map (given g.H.NodeHash.half) x) (sym none)
