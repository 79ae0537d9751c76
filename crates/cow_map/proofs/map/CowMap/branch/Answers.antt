use Rattle.std.proofs.Common.{◌∙◌, ◌<◌, ap, subst, length, Some, slice_index_or, arith, sym}
use Rattle.cow_map.specs.declared.link.Link.TheVariants.{Empty}
use Rattle.cow_map.specs.Bodies.{inner, CowTree, IsBelow}
use Rattle.cow_map.specs.Shown.{body_of}
use Rattle.cow_map.proofs.shared.Leading.{weaker}
use Rattle.cow_map.proofs.map.CowMap.branch.Goals as goal

-- the links of a node name lower places
pub returns-in-Inner-clause-below : goal.returns-in-Inner-clause-below
returns-in-Inner-clause-below c =
    let nodes = c.self.inside.nodes in
    let body = c.known.ensures c.in-Own.at (inner c.in-Inner.links) (c.get.ensures ∙ ap (λ x. Some (body_of x)) c.in-Inner.is) in
    let low : c.in-Own.at < length nodes = subst (IsBelow (length nodes)) c.in-Own.is c.self.invariant in
    let below = weaker c.in-Own.at (length nodes) (slice_index_or c.in-Inner.links c.args.b Empty) (omega arith) (body.1 c.args.b) in
    subst (λ (m : CowTree). IsBelow (length m.nodes) c.get-in-Inner.result) c.self.view_is
    (subst (IsBelow (length nodes)) (sym c.get-in-Inner.ensures) below)
