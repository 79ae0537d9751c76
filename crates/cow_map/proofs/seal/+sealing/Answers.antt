use Rattle.std.proofs.Common.{rules, ◌∙◌, ap, ◌<◌, ◌≤◌, ◌+◌, ◌*◌, ◌++◌, ◌∷◌, [], ℕ, Ok, Err, Some, length, sym, subst, arith}
use Rattle.std.proofs.lemmas.Result.{err_from_is_err_and}
use Rattle.ledger_spec.specs.Bytes.{Bytes, Hash}
use Rattle.cow_map.specs.Sealing.{Seals, AddsAll, IsAnswer, made_at}
use Rattle.cow_map.specs.Seals.{hash_at}
use Rattle.cow_map.specs.Shown.{body_of}
use Rattle.cow_map.specs.Trees.{StandsAt}
use Rattle.cow_map.proofs.Adding.{front_faults, front_more, front_all, leaf_seals, inner_seals, inner_faults}
use Rattle.cow_map.specs.declared.link.Link.{Link}
use Rattle.cow_map.specs.declared.link.Link.TheVariants.{Empty, Unloaded, Own}
use Rattle.cow_map.specs.Bodies.{inner, IsBelow}
use Rattle.cow_map.proofs.shared.Leading.{weaker}
use Rattle.cow_map.proofs.seal.+sealing.Invariants.{place}
use Rattle.cow_map.proofs.seal.+sealing.Goals as goal

place_below : (n : ℕ) (l : Link) → IsBelow n l → place l < 2 * n + 1
place_below n Empty h = omega arith
place_below n (Unloaded g) h = omega arith
place_below n (Own i) h = omega arith

-- a node's links name lower places of the list, so each is within it and the walk comes to an end
pub sealed_inner-seal_link-requires : goal.sealed_inner-seal_link-requires
sealed_inner-seal_link-requires g t c κs within =
    let at = subst (IsBelow c.args.at) (sym c.get.ensures)
    ((c.known.ensures c.args.at (inner c.args.links.now) c.requires.node).1 c.loop-b.b) in
    let small = place_below c.args.at c.get.result at in
    let low = weaker c.args.at (length c.args.arena.now) c.get.result (omega (arith, c.requires.place)) at in
    (omega (arith, small, c.decreases), (within, (search rules, (search rules, low))))

-- the branches before have added all their forms, so the fault at this branch is the first below the node
pub sealed_inner-returns-in_err-hash-clause-seals : goal.sealed_inner-returns-in_err-hash-clause-seals
sealed_inner-returns-in_err-hash-clause-seals g t c stored left path kids stand =
    let p = err_from_is_err_and c.from_residual-in_err-hash.result c.from_residual-in_err-hash.ensures.1 in
    let low : c.loop-b.b < length c.args.links.now = omega (arith, c.known-2.ensures, c.loop-b-test.true) in
    let step = (subst (λ l. Seals g.H.NodeHash.half c.args.kind c.args.arena.now l c.loop-b.forms.items c.seal_link.new.forms.items
    (Err c.in_err-hash.field-0.0)) c.get.ensures c.in_err-hash.ensures.seals)
    stored left (path ++ c.loop-b.b ∷ []) (kids c.loop-b.b) (stand c.loop-b.b c.loop-b-test.true) in
    rw (p.1, p.2) (
      front_faults g.H.NodeHash.half c.args.kind c.args.arena.now c.args.links.now c.args.forms.now.items stored left Hash Bytes
          c.loop-b.forms.items c.seal_link.new.forms.items c.loop-b.made.bytes.items c.in_err-hash.field-0.0 c.loop-b.b low
          (c.loop-b.invariant.0 stored left path kids stand) step.0,
      tt,
    )

-- one branch more adds its forms behind those of the branches before, and its hash behind theirs
pub sealed_inner-loop-b-preserved : goal.sealed_inner-loop-b-preserved
sealed_inner-loop-b-preserved g t c = (
  (λ stored left path kids stand.
      let low : c.loop-b.b < length c.args.links.now = omega (arith, c.known-2.ensures, c.loop-b-test.true) in
      let step = (subst (λ l. Seals g.H.NodeHash.half c.args.kind c.args.arena.now l c.loop-b.forms.items c.seal_link.new.forms.items
      (Ok c.in_ok-hash.hash)) c.get.ensures c.in_ok-hash.ensures.seals)
      stored left (path ++ c.loop-b.b ∷ []) (kids c.loop-b.b) (stand c.loop-b.b c.loop-b-test.true) in
      front_more g.H.NodeHash.half c.args.kind c.args.arena.now c.args.links.now c.args.forms.now.items stored left c.loop-b.forms.items
      c.seal_link.new.forms.items c.loop-b.made.bytes.items c.add.new.self.bytes.items c.in_ok-hash.hash c.loop-b.b low
      (c.loop-b.invariant.0 stored left path kids stand) step
      c.in_ok-add.ensures),
  (λ named. c.in_ok-hash.ensures.named (c.loop-b.invariant.1 named)),
)

-- no branch is left, so all forms below were added, and the bytes are the prefix and all sixteen hashes
pub sealed_inner-returns-clause-seals : goal.sealed_inner-returns-clause-seals
sealed_inner-returns-clause-seals g t c stored left path kids stand =
    let all : length c.args.links.now ≤ c.loop-b.b = omega (arith, c.known-2.ensures, c.loop-b-test.false) in
    let done = front_all g.H.NodeHash.half c.args.kind c.args.arena.now c.args.links.now c.args.forms.now.items stored left
    c.loop-b.forms.items c.loop-b.made.bytes.items c.loop-b.b all (c.loop-b.invariant.0 stored left path kids stand) in
    (done.0, c.end.ensures ∙ done.1)

-- a leaf makes one form, its own, and the link stands for the hash of that
pub seal_link-returns-in_ok-form-in-Leaf-clause-seals : goal.seal_link-returns-in_ok-form-in-Leaf-clause-seals
seal_link-returns-in_ok-form-in-Leaf-clause-seals g t c stored left path items stands =
    let at = c.get.ensures ∙ ap (λ x. Some (body_of x)) c.in-Leaf.is in
    subst (λ l. AddsAll g.H.NodeHash.half (made_at g.H.NodeHash.half c.args.kind c.args.arena.now left l) c.args.forms.now.items
    c.add.new.forms.items c.add.result × IsAnswer c.add.result (hash_at g.H.NodeHash.half c.args.kind c.args.arena.now left l))
    (sym c.in-Own.is)
    (leaf_seals g.H.NodeHash.half c.args.kind c.args.arena.now c.in-Own.at c.in-Leaf.item.key c.in-Leaf.item.value
    c.in_ok-form-in-Leaf.form c.args.forms.now.items c.add.new.forms.items c.add.result at c.in_ok-form-in-Leaf.ensures c.add.ensures.adds
    left)

-- the forms below the inner node are there already, so its own comes last, and its hash is the link's
pub seal_link-returns-in_ok-form-in-Inner-clause-seals : goal.seal_link-returns-in_ok-form-in-Inner-clause-seals
seal_link-returns-in_ok-form-in-Inner-clause-seals g t c stored left path items stands =
    let at = c.get.ensures ∙ ap (λ x. Some (body_of x)) c.in-Inner.is in
    let inside = subst (λ l. StandsAt g.H.NodeHash.half stored c.args.kind c.args.arena.now left path l items) c.in-Own.is stands in
    subst (λ l. AddsAll g.H.NodeHash.half (made_at g.H.NodeHash.half c.args.kind c.args.arena.now left l) c.args.forms.now.items
    c.add-in-Inner.new.forms.items c.add-in-Inner.result
    × IsAnswer c.add-in-Inner.result (hash_at g.H.NodeHash.half c.args.kind c.args.arena.now left l)) (sym c.in-Own.is)
    (inner_seals g.H.NodeHash.half c.args.kind c.args.arena.now stored path items c.in-Own.at c.in-Inner.links c.in_ok-form-in-Inner.form
    c.args.forms.now.items c.sealed_inner.new.forms.items c.add-in-Inner.new.forms.items c.add-in-Inner.result at
    (λ lower kids stand. c.in_ok-form-in-Inner.ensures.seals stored lower path kids stand) c.add-in-Inner.ensures.adds left inside)

-- kids come before their parent, so a fault below the inner node is the first at the link too
pub seal_link-returns-in_err-form-in-Inner-clause-seals : goal.seal_link-returns-in_err-form-in-Inner-clause-seals
seal_link-returns-in_err-form-in-Inner-clause-seals g t c stored left path items stands =
    let p = err_from_is_err_and c.from_residual-in_err-form-in-Inner.result c.from_residual-in_err-form-in-Inner.ensures.1 in
    let at = c.get.ensures ∙ ap (λ x. Some (body_of x)) c.in-Inner.is in
    let inside = subst (λ l. StandsAt g.H.NodeHash.half stored c.args.kind c.args.arena.now left path l items) c.in-Own.is stands in
    let done = inner_faults g.H.NodeHash.half c.args.kind c.args.arena.now stored path items c.in-Own.at c.in-Inner.links
    c.args.forms.now.items c.sealed_inner.new.forms.items c.in_err-form-in-Inner.field-0.0 at
    (λ lower kids stand. (c.in_err-form-in-Inner.ensures.seals stored lower path kids stand).0) left inside in
    rw (p.1, p.2) (
      subst
          (λ l. AddsAll {X = Hash} g.H.NodeHash.half (made_at g.H.NodeHash.half c.args.kind c.args.arena.now left l) c.args.forms.now.items
          c.sealed_inner.new.forms.items (Err c.in_err-form-in-Inner.field-0.0)) (sym c.in-Own.is) done,
      tt,
    )
