use Rattle.std.proofs.Common.{List, Option, None, refl, ap, take, arith, subst, ◌∙◌}
use Rattle.nib_path.specs.Paths.{nibbles}
use Rattle.ledger_spec.specs.Bytes.{Hash}
use Rattle.shamap_node.specs.Nodes.{held}
use Rattle.std.specs.declared.alloc.Global.{Global}
use Rattle.std.specs.declared.sync.Arc.{Arc}
use Rattle.shamap_node.specs.declared.Node.{Node}
use Rattle.path_proof.proofs.Walks.{goes_further, comes_to_end, stored_more, ended_above}
use Rattle.path_proof.specs.Paths.{held_nodes, last_branches}
use Rattle.path_proof.specs.Ways.{Fits, Waypoint}
use Rattle.path_proof.proofs.way.Reading.go_on.Goals as goal

-- no node may stand at the place to which the read came, and that is the cause
pub returns-in_err-node-clause-comes : goal.returns-in_err-node-clause-comes
returns-in_err-node-clause-comes g c root tells nodes nonzero way fetched =
    let above = c.last_inner.ensures ∙ ap (λ (l : List (Arc Node Global)). last_branches (held_nodes l)) c.deref.ensures.value in
    ended_above g.H.NodeHash.half c.args.kind root c.args.key.now tells nodes _ _ c.from_residual.ensures.1
    (held_nodes c.args.self.used.items) c.args.self.place.depth _ _ c.args.self.place.wanted above way
    (c.in_err-node.ensures.ends tells nodes fetched)

-- the node fits its place and the way goes on below it, so with it the nodes used lead to the next place
pub returns-in-Ok-clause-comes : goal.returns-in-Ok-clause-comes
returns-in-Ok-clause-comes g c root tells nodes nonzero way fetched =
    let above = c.last_inner.ensures ∙ ap (λ (l : List (Arc Node Global)). last_branches (held_nodes l)) c.deref.ensures.value in
    let fits = subst (λ (b : Option (List Hash)). Fits g.H.NodeHash.half c.args.kind b
    (take c.args.self.place.depth (nibbles c.args.key.now)) c.args.self.place.wanted (held c.in_ok-node.node.value)) above
    (c.in_ok-node.ensures.fits fetched.hash) in
    goes_further g.H.NodeHash.half c.args.kind root c.args.key.now tells nodes nodes c.args.self.used.items c.push.new.self.items
    c.in_ok-node.node c.deref-2.result.now _ _ _ (λ told. refl) way fits
    (λ told. c.in_ok-node.ensures.held _ (fetched.exact told)) c.deref-2.ensures c.in_ok-push.ensures.items (c.in-Ok.ensures _)

-- the nodes before lead to this place, and the last one fits it and ends the path with this outcome
pub returns-in-Err-clause-comes : goal.returns-in-Err-clause-comes
returns-in-Err-clause-comes g c root tells nodes nonzero way fetched =
    let above = c.last_inner.ensures ∙ ap (λ (l : List (Arc Node Global)). last_branches (held_nodes l)) c.deref.ensures.value in
    let fits = subst (λ (b : Option (List Hash)). Fits g.H.NodeHash.half c.args.kind b
    (take c.args.self.place.depth (nibbles c.args.key.now)) c.args.self.place.wanted (held c.in_ok-node.node.value)) above
    (c.in_ok-node.ensures.fits fetched.hash) in (
      comes_to_end g.H.NodeHash.half c.args.kind root c.args.key.now tells nodes c.args.self.used.items c.push.new.self.items
          c.in_ok-node.node c.deref-2.result.now _ c.in-Err.outcome nonzero way fits c.deref-2.ensures
          c.in_ok-push.ensures.items c.in-Err.ensures,
      stored_more g.H.NodeHash.half c.args.kind root c.args.key.now tells nodes c.args.self.used.items c.push.new.self.items
          c.in_ok-node.node _ way fits (λ told. c.in_ok-node.ensures.held _ (fetched.exact told))
          c.in_ok-push.ensures.items,
    )

-- the next place is one level below
pub returns-in-Ok-clause-below : goal.returns-in-Ok-clause-below
returns-in-Ok-clause-below g c = omega (arith, ap (λ (s : Waypoint). s.depth) (c.in-Ok.ensures None).below, c.in-Ok.place.within)
