use Rattle.std.proofs.Common.{◌≡◌, ◌∙◌, ap, sym, subst, refl, List, ℕ, length, Some, slice_index_or, arith}
use Rattle.cow_map.specs.declared.link.Link.{Link}
use Rattle.cow_map.specs.declared.link.Link.TheVariants.{Empty}
use Rattle.cow_map.specs.Bodies.{Body, leaf, inner, IsBody, IsBelow}
use Rattle.cow_map.specs.Gathered.{moved_body}
use Rattle.cow_map.specs.Shown.{body_of, bodies_of}
use Rattle.cow_map.proofs.Pushing.{pushed, body_told, shared}
use Rattle.cow_map.proofs.Shifting.{links_move}
use Rattle.cow_map.proofs.arena.Arena.append_one.Goals as goal

-- the leaf that is shared is that of the other list
pub invariant_of-self-in_ok-push-in-Leaf : goal.invariant_of-self-in_ok-push-in-Leaf
invariant_of-self-in_ok-push-in-Leaf c =
    let told = body_told c.other.inside.nodes.items c.args.other.now c.args.at c.index.result.now _ c.other.view_is c.requires.place
    c.index.ensures c.get.ensures in
    let node = c.in_ok-try_clone-in-Leaf.field-0 in
    let is : body_of node.value ≡ leaf c.in-Leaf.field-0.key c.in-Leaf.field-0.value = ap body_of c.in_ok-try_clone-in-Leaf.ensures ∙ told
    ∙ ap body_of c.in-Leaf.is in
    pushed _ _ node node.value c.in_ok-push-in-Leaf.ensures.items refl c.self.invariant
    (subst (IsBody (length (bodies_of c.self.inside.nodes.items))) (sym is) c.in-Leaf.field-0.valid)

pub push_inner-requires : goal.push_inner-requires
push_inner-requires c =
    let body = c.known.ensures c.args.at (inner c.in-Inner.links) (c.get.ensures ∙ ap (λ x. Some (body_of x)) c.in-Inner.is) in
    subst (λ (ls : List Link). (b : ℕ) → IsBelow (length c.args.self.now) (slice_index_or ls b Empty)) (sym c.in_ok-moved-in-Inner.ensures)
    (links_move c.args.n c.args.at (length c.args.self.now) c.in-Inner.links body (omega arith))

-- a leaf has no links that would move, so the other list's own leaf can stand here shared
pub returns-in_ok-push-in-Leaf : goal.returns-in_ok-push-in-Leaf
returns-in_ok-push-in-Leaf c body at =
    let told = body_told c.other.inside.nodes.items c.args.other.now c.args.at c.index.result.now _ c.other.view_is c.requires.place
    c.index.ensures c.get.ensures in
    let node = c.in_ok-try_clone-in-Leaf.field-0 in
    let is : body_of node.value ≡ leaf c.in-Leaf.field-0.key c.in-Leaf.field-0.value = ap body_of c.in_ok-try_clone-in-Leaf.ensures ∙ told
    ∙ ap body_of c.in-Leaf.is in
    let same : Some (leaf c.in-Leaf.field-0.key c.in-Leaf.field-0.value) ≡ Some body = ap (λ x. Some (body_of x)) (sym c.in-Leaf.is)
    ∙ sym c.get.ensures ∙ at in
    shared _ _ node c.args.self.now (moved_body c.args.n body) c.in_ok-push-in-Leaf.ensures.items c.self.view_is
    (is ∙ ap (moved_body c.args.n) (some_same _ _ same))
  where
    some_same : (a b : Body) → Some a ≡ Some b → a ≡ b
    some_same a b e = cc
