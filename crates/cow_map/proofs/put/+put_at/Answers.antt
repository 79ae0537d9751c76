use Rattle.std.proofs.Common.{◌∙◌, ap, sym, subst, List, ℕ, ◌-◌, ◌∷◌, [], ◌++◌, length, IsTrue, Err}
use Rattle.std.specs.FinMap as map
use Rattle.std.proofs.lemmas.Result.{err_from_is_err_and}
use Rattle.nib_path.specs.Paths.{lies_under, nibble_of}
use Rattle.cow_map.specs.declared.link.Link.{Link}
use Rattle.cow_map.proofs.Putting.{none_sets, leaf_sets, fork_done, lone_none, lone_one, lone_fork, way_none, way_one, way_step}
use Rattle.cow_map.proofs.Putting.{way_stops, goes_same, changed_below}
use Rattle.cow_map.proofs.put.+put_at.Goals as goal

pub returns-in_err-look-clause-way : goal.returns-in_err-look-clause-way
returns-in_err-look-clause-way g t c tells =
    let p = err_from_is_err_and c.from_residual.result c.from_residual.ensures.1 in
    rw (p.1, p.2) (way_stops _ _ _ _ _ _ _ _ Link _ _ (c.in_err-look.ensures.seen tells))

-- an inner node stops no one, so what stops the put below the key's branch is the first thing on the way
pub returns-in_err-next-in-Inner-clause-way : goal.returns-in_err-next-in-Inner-clause-way
returns-in_err-next-in-Inner-clause-way g t c tells =
    let p = err_from_is_err_and c.from_residual-in_err-next-in-Inner.result c.from_residual-in_err-next-in-Inner.ensures.1 in
    let shown = rw c.in-Inner.is at (c.in_ok-look.ensures.seen tells) in
    let placed = rw c.in-Inner.is at c.in_ok-look.ensures.placed in
    rw (p.1, p.2) (goes_same Link (Err c.in_err-next-in-Inner.field-0.0) _ _
    (way_step g.H.NodeHash.half (map.get (g.S.NodeSource.stored c.args.source.now)) c.args.kind c.args.arena.now c.args.lone c.args.id.now
    c.args.link.now c.args.item.key (map.get (g.S.NodeSource.stored c.look.new.source))
    c.below.result c.get.result c.is_only.result c.toward-b.result c.in-Inner.links (ap (λ h. map.get h) (c.look.ensures.source.same tells))
    placed.0 (c.toward-b.ensures.value ∙ ap (λ k. nibble_of k (length c.args.id.now)) c.key.ensures)
    shown c.below.ensures c.get.ensures c.is_only.ensures) (c.in_err-next-in-Inner.ensures.way tells))

-- the links that stay name nodes that were there before, and the new one none beyond those that the put below has made
pub push_inner-requires : goal.push_inner-requires
push_inner-requires g t c =
    let placed = rw c.in-Inner.is at c.in_ok-look.ensures.placed in
    changed_below c.args.arena.now c.put_at.new.arena c.in_ok-next-in-Inner.ensures.made.grows.0 c.in-Inner.links c.in_ok-links-in-Inner.links
    c.toward-b.result c.in_ok-next-in-Inner.next c.in_ok-next-in-Inner.ensures.made.grows.1 placed.2
    c.in_ok-next-in-Inner.ensures.made.below c.in_ok-links-in-Inner.ensures

-- where nothing is found the link stood for no entry, so with the item set there is the planted leaf's alone
pub returns-in-Nothing-clause-sets : goal.returns-in-Nothing-clause-sets
returns-in-Nothing-clause-sets g t c tells =
    let shown = rw c.in-Nothing.is at (c.in_ok-look.ensures.seen tells) in
    none_sets g.H.NodeHash.half (map.get (g.S.NodeSource.stored c.args.source.now)) c.args.kind c.args.arena.now c.plant.new.arena
    (64 - length c.args.id.now) c.args.id.now c.args.link.now c.in_ok-plant-in-Nothing.field-0 c.args.item.key c.args.item.value
    (lone_none c.args.lone c.args.id.now _ shown) (λ st. c.in_ok-plant-in-Nothing.ensures.stands g.H.NodeHash.half st c.args.kind)

pub returns-in-Nothing-clause-way : goal.returns-in-Nothing-clause-way
returns-in-Nothing-clause-way g t c tells =
    let shown = rw c.in-Nothing.is at (c.in_ok-look.ensures.seen tells) in
    way_none _ _ _ _ _ _ _ _ _ shown

-- the link stood for the one entry of the leaf, and the item comes in its place or beside it
pub returns-in-Leaf-clause-sets : goal.returns-in-Leaf-clause-sets
returns-in-Leaf-clause-sets g t c tells =
    let shown = rw c.in-Leaf.is at (c.in_ok-look.ensures.seen tells) in
    leaf_sets g.H.NodeHash.half (map.get (g.S.NodeSource.stored c.args.source.now)) c.args.kind c.args.arena.now c.beside.new.arena
    (64 - length c.args.id.now) c.args.id.now c.args.link.now c.in_ok-beside-in-Leaf.field-0 c.in-Leaf.key c.in-Leaf.field-1
    c.args.item.key c.args.item.value
    (lone_one c.args.lone c.args.id.now _ _ _ shown)
    (λ st. c.in_ok-beside-in-Leaf.ensures.stands g.H.NodeHash.half st c.args.kind c.in-Leaf.field-1)

pub returns-in-Leaf-clause-way : goal.returns-in-Leaf-clause-way
returns-in-Leaf-clause-way g t c tells =
    let shown = rw c.in-Leaf.is at (c.in_ok-look.ensures.seen tells) in
    way_one _ _ _ _ _ _ _ _ _ c.in-Leaf.key c.in-Leaf.field-1 shown

-- the item's key lies under one branch, so setting it there sets it in the whole, and the other branches hold what they held
pub returns-clause-sets : goal.returns-clause-sets
returns-clause-sets g t c tells =
    let shown = rw c.in-Inner.is at (c.in_ok-look.ensures.seen tells) in
    let placed = rw c.in-Inner.is at c.in_ok-look.ensures.placed in
    fork_done g.H.NodeHash.half (map.get (g.S.NodeSource.stored c.args.source.now)) c.args.kind
    (map.get (g.S.NodeSource.stored c.look.new.source)) c.args.arena.now c.put_at.new.arena c.push_inner.new.self
    c.in_ok-next-in-Inner.ensures.made.grows.0
    c.args.id.now c.below.result c.args.link.now c.get.result c.in_ok-next-in-Inner.next c.in_ok-push_inner-in-Inner.field-0
    c.in-Inner.links c.in_ok-links-in-Inner.links c.toward-b.result c.args.item.key c.args.item.value
    (ap (λ h. map.get h) (c.look.ensures.source.same tells)) c.in_ok-next-in-Inner.ensures.made.grows.1 c.known-2.ensures
    c.known-in-Inner.ensures c.requires.below (lone_fork c.args.lone c.args.id.now _ _ shown) placed.0 c.toward-b.ensures.small
    c.in_ok-next-in-Inner.ensures.made.below
    (subst (λ (k : List ℕ). IsTrue (lies_under (c.args.id.now ++ c.toward-b.result ∷ []) k)) c.key.ensures
    (c.toward-b.ensures.under (subst (λ (k : List ℕ). IsTrue (lies_under c.args.id.now k)) (sym c.key.ensures) c.requires.under)))
    c.below.ensures c.get.ensures c.in_ok-links-in-Inner.ensures c.in_ok-push_inner-in-Inner.ensures.ok.0 c.in_ok-push_inner-in-Inner.ensures.ok.1
    (c.in_ok-next-in-Inner.ensures.sets tells)

-- the inner node is passed, and nothing stopped the put below the key's branch, so nothing is in the way
pub returns-clause-way : goal.returns-clause-way
returns-clause-way g t c tells =
    let shown = rw c.in-Inner.is at (c.in_ok-look.ensures.seen tells) in
    let placed = rw c.in-Inner.is at c.in_ok-look.ensures.placed in
    way_step g.H.NodeHash.half (map.get (g.S.NodeSource.stored c.args.source.now)) c.args.kind c.args.arena.now c.args.lone c.args.id.now
    c.args.link.now c.args.item.key (map.get (g.S.NodeSource.stored c.look.new.source))
    c.below.result c.get.result c.is_only.result c.toward-b.result c.in-Inner.links (ap (λ h. map.get h) (c.look.ensures.source.same tells))
    placed.0 (c.toward-b.ensures.value ∙ ap (λ k. nibble_of k (length c.args.id.now)) c.key.ensures)
    shown c.below.ensures c.get.ensures c.is_only.ensures ∙ c.in_ok-next-in-Inner.ensures.way tells
