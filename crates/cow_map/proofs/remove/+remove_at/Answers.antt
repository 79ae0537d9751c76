use Rattle.std.proofs.Common.{◌≡◌, ◌∙◌, ap, sym, subst, ◌-◌, length, Option, Err, rules}
use Rattle.std.specs.FinMap as map
use Rattle.std.proofs.lemmas.Result.{err_from_is_err_and}
use Rattle.cow_map.specs.declared.link.Link.{Link}
use Rattle.cow_map.specs.Trees.{found_at}
use Rattle.cow_map.specs.Ways.{stop_here}
use Rattle.cow_map.specs.Edits.{Removes, IsBelowIf}
use Rattle.cow_map.proofs.Stops.{goes_or}
use Rattle.cow_map.proofs.Lone.{nothing_leaves, leaf_leaves, fork_leaves}
use Rattle.cow_map.proofs.Beside.{removal_none, removal_one, removal_step}
use Rattle.cow_map.proofs.Beside.{stopped_below, passed_below, left_below, some_left}
use Rattle.cow_map.proofs.Putting.{lone_none, lone_one, lone_fork, changed_below, way_stops, goes_same}
use Rattle.cow_map.proofs.Removing.{none_removes, leaf_removes, fork_absent, fork_removes, grows_both}
use Rattle.cow_map.proofs.remove.+remove_at.Goals as goal

pub returns-in-Nothing-clause-takes : goal.returns-in-Nothing-clause-takes
returns-in-Nothing-clause-takes g t c = record {
  removes = λ tells.
      let shown = rw c.in-Nothing.is at (c.in_ok-look.ensures.seen tells) in
      none_removes g.H.NodeHash.half (map.get (g.S.NodeSource.stored c.args.source.now)) c.args.kind c.args.arena.now c.args.id.now
      c.args.link.now c.args.key.now (64 - length c.args.id.now) (lone_none c.args.lone c.args.id.now _ shown);
  leaves = λ tells.
      nothing_leaves _ c.args.lone c.args.id.now c.args.key.now _
      (lone_none c.args.lone c.args.id.now _ (rw c.in-Nothing.is at (c.in_ok-look.ensures.seen tells)));
}

pub returns-in-Leaf-clause-takes : goal.returns-in-Leaf-clause-takes
returns-in-Leaf-clause-takes g t c = record {
  -- the leaf is the only entry, so with its key nothing is left, and any other key isn't there
  removes = λ tells.
      let shown = rw c.in-Leaf.is at (c.in_ok-look.ensures.seen tells) in
      leaf_removes g.H.NodeHash.half (map.get (g.S.NodeSource.stored c.args.source.now)) c.args.kind c.args.arena.now c.args.id.now
      c.args.link.now c.args.key.now (64 - length c.args.id.now) c.in-Leaf.own c.in-Leaf.field-1 c.if_same.result
      (lone_one c.args.lone c.args.id.now _ _ _ shown) c.if_same.ensures;
  leaves = λ tells.
      leaf_leaves _ c.args.lone c.args.id.now c.args.key.now _ c.in-Leaf.own c.in-Leaf.field-1 c.if_same.result
      (rw c.in-Leaf.is at (c.in_ok-look.ensures.seen tells)) c.if_same.ensures;
}

pub returns-in-None-clause-takes : goal.returns-in-None-clause-takes
returns-in-None-clause-takes g t c = record {
  -- the key could stand below its nibble's branch alone, and it isn't there
  removes = λ tells.
      let shown = rw c.in-Inner.is at (c.in_ok-look.ensures.seen tells) in
      let placed = rw c.in-Inner.is at c.in_ok-look.ensures.placed in
      fork_absent g.H.NodeHash.half (map.get (g.S.NodeSource.stored c.args.source.now)) c.args.kind c.args.arena.now c.args.id.now
      c.args.link.now c.args.key.now (map.get (g.S.NodeSource.stored c.look.new.source)) c.remove_at.new.arena c.below-place.result
      c.get.result
      c.in-Inner.links c.toward-b.result (ap (λ h. map.get h) (c.look.ensures.source.same tells))
      (lone_fork c.args.lone c.args.id.now _ _ shown) placed.0 c.toward-b.ensures.small (c.toward-b.ensures.under c.requires.under)
      c.below-place.ensures c.get.ensures
      (subst (Removes g.H.NodeHash.half (map.get (g.S.NodeSource.stored c.look.new.source)) c.args.kind c.args.arena.now
      c.remove_at.new.arena (64 - length c.below-place.result) c.below-place.result c.get.result c.args.key.now) c.in-None.is
      (c.in_ok-next-in-Inner.ensures.takes.removes tells)) c.args.arena.now;
  leaves = search rules;
}

-- the links that stay name nodes that were there before, and the new one none beyond those that the call below has made
pub settle-requires-clause-below : goal.settle-requires-clause-below
settle-requires-clause-below g t c κs within =
    let placed = rw c.in-Inner.is at c.in_ok-look.ensures.placed in
    changed_below c.args.arena.now c.remove_at.new.arena c.in_ok-next-in-Inner.ensures.made.grows.0 c.in-Inner.links c.in_ok-links-in-Some.links
    c.toward-b.result c.in-Some.next c.in_ok-next-in-Inner.ensures.made.grows.1 placed.2
    (subst (IsBelowIf (length c.remove_at.new.arena)) c.in-Some.is c.in_ok-next-in-Inner.ensures.made.below) c.in_ok-links-in-Some.ensures

pub returns-in_err-left-in-Some-clause-made : goal.returns-in_err-left-in-Some-clause-made
returns-in_err-left-in-Some-clause-made g t c = record {
  grows =
      let placed = rw c.in-Inner.is at c.in_ok-look.ensures.placed in
      grows_both c.args.arena.now c.remove_at.new.arena c.settle.new.arena c.args.id.now c.below-place.result c.toward-b.result placed.0
      c.below-place.ensures c.in_ok-next-in-Inner.ensures.made.grows c.settle.ensures.made.grows;
  below = search rules;
}

pub returns-clause-made : goal.returns-clause-made
returns-clause-made g t c = record {
  grows =
      let placed = rw c.in-Inner.is at c.in_ok-look.ensures.placed in
      grows_both c.args.arena.now c.remove_at.new.arena c.settle.new.arena c.args.id.now c.below-place.result c.toward-b.result placed.0
      c.below-place.ensures c.in_ok-next-in-Inner.ensures.made.grows c.settle.ensures.made.grows;
  below = search rules;
}

pub returns-clause-takes : goal.returns-clause-takes
returns-clause-takes g t c = record {
  -- the key goes from the entries of its branch, and what all branches then hold settles in the node's place
  removes = λ tells.
      let shown = rw c.in-Inner.is at (c.in_ok-look.ensures.seen tells) in
      let placed = rw c.in-Inner.is at c.in_ok-look.ensures.placed in
      fork_removes g.H.NodeHash.half (map.get (g.S.NodeSource.stored c.args.source.now)) c.args.kind c.args.arena.now c.args.id.now
      c.args.link.now c.args.key.now (map.get (g.S.NodeSource.stored c.look.new.source))
      (map.get (g.S.NodeSource.stored c.remove_at.new.source))
      c.remove_at.new.arena c.settle.new.arena c.in_ok-next-in-Inner.ensures.made.grows.0 c.below-place.result c.get.result c.in-Some.next
      c.in_ok-left-in-Some.left c.in-Inner.links c.in_ok-links-in-Some.links c.toward-b.result
      (ap (λ h. map.get h) (c.look.ensures.source.same tells))
      (ap (λ h. map.get h) (c.remove_at.ensures.source.same tells ∙ c.look.ensures.source.same tells))
      c.in_ok-next-in-Inner.ensures.made.grows.1 c.known-2.ensures c.requires.below (lone_fork c.args.lone c.args.id.now _ _ shown) placed.0
      c.toward-b.ensures.small (c.toward-b.ensures.under c.requires.under) c.below-place.ensures c.get.ensures c.in_ok-links-in-Some.ensures
      (subst (Removes g.H.NodeHash.half (map.get (g.S.NodeSource.stored c.look.new.source)) c.args.kind c.args.arena.now
      c.remove_at.new.arena (64 - length c.below-place.result) c.below-place.result c.get.result c.args.key.now) c.in-Some.is
      (c.in_ok-next-in-Inner.ensures.takes.removes tells))
      (c.in_ok-left-in-Some.ensures.stands.stands tells);
  -- the key's leaf was not alone below the root, so something is left of the inner node, and settling leaves it sound
  leaves = λ tells.
      let shown = rw c.in-Inner.is at (c.in_ok-look.ensures.seen tells) in
      let placed = rw c.in-Inner.is at c.in_ok-look.ensures.placed in
      let leaves = rw c.in-Some.is at (c.in_ok-next-in-Inner.ensures.takes.leaves tells) in
      let same : map.get (g.S.NodeSource.stored c.remove_at.new.source) ≡ map.get (g.S.NodeSource.stored c.args.source.now) =
      ap (λ h. map.get h) (c.remove_at.ensures.source.same tells ∙ c.look.ensures.source.same tells) in
      fork_leaves _ c.args.lone c.args.id.now c.args.key.now _ c.in-Inner.links c.in_ok-left-in-Some.left
      (lone_fork c.args.lone c.args.id.now _ _ shown)
      (some_left g.H.NodeHash.half (map.get (g.S.NodeSource.stored c.look.new.source)) c.args.kind _ c.args.arena.now c.args.id.now
      c.below-place.result c.get.result c.in-Some.next c.in_ok-left-in-Some.left c.args.key.now c.is_only.result c.toward-b.result
      c.in-Inner.links
      c.in_ok-links-in-Some.links placed.1 c.toward-b.ensures.small c.below-place.ensures c.get.ensures c.is_only.ensures c.in_ok-links-in-Some.ensures
      leaves c.in_ok-left-in-Some.ensures.stands.some)
      (ap (λ st. stop_here c.args.id.now
      (found_at g.H.NodeHash.half st c.args.kind c.settle.new.arena c.args.id.now c.in_ok-left-in-Some.left)) (sym same)
      ∙ c.in_ok-left-in-Some.ensures.stands.sound tells);
}

-- where a look stops one
pub returns-in_err-look-clause-way : goal.returns-in_err-look-clause-way
returns-in_err-look-clause-way g t c tells =
    let p = err_from_is_err_and c.from_residual.result c.from_residual.ensures.1 in
    rw (p.1, p.2) (goes_or (Option Link) _ _ _ (way_stops _ _ _ _ _ _ _ _ (Option Link) _ _ (c.in_err-look.ensures.seen tells)))

pub returns-in-Nothing-clause-way : goal.returns-in-Nothing-clause-way
returns-in-Nothing-clause-way g t c tells =
    removal_none g.H.NodeHash.half (map.get (g.S.NodeSource.stored c.args.source.now)) c.args.kind c.args.arena.now
    (64 - length c.args.id.now) c.args.lone c.args.id.now c.args.link.now c.args.key.now
    (rw c.in-Nothing.is at (c.in_ok-look.ensures.seen tells))

pub returns-in-Leaf-clause-way : goal.returns-in-Leaf-clause-way
returns-in-Leaf-clause-way g t c tells =
    removal_one g.H.NodeHash.half (map.get (g.S.NodeSource.stored c.args.source.now)) c.args.kind c.args.arena.now
    (64 - length c.args.id.now) c.args.lone c.args.id.now c.args.link.now c.args.key.now c.in-Leaf.own c.in-Leaf.field-1
    (rw c.in-Leaf.is at (c.in_ok-look.ensures.seen tells))

-- where the call below is stopped
pub returns-in_err-next-in-Inner-clause-way : goal.returns-in_err-next-in-Inner-clause-way
returns-in_err-next-in-Inner-clause-way g t c tells =
    let p = err_from_is_err_and c.from_residual-in_err-next-in-Inner.result c.from_residual-in_err-next-in-Inner.ensures.1 in
    let shown = rw c.in-Inner.is at (c.in_ok-look.ensures.seen tells) in
    let placed = rw c.in-Inner.is at c.in_ok-look.ensures.placed in
    let step =
    removal_step g.H.NodeHash.half (map.get (g.S.NodeSource.stored c.args.source.now)) c.args.kind
    (map.get (g.S.NodeSource.stored c.look.new.source)) c.args.arena.now c.args.lone c.args.id.now c.below-place.result c.args.link.now
    c.get.result c.args.key.now c.is_only.result c.toward-b.result c.in-Inner.links
    (ap (λ h. map.get h) (c.look.ensures.source.same tells)) placed.0 c.toward-b.ensures.value shown
    (lone_fork c.args.lone c.args.id.now _ _ shown) c.below-place.ensures c.get.ensures c.is_only.ensures in
    rw (p.1, p.2) (goes_same (Option Link) (Err c.in_err-next-in-Inner.field-0.0) _ _ step
    (stopped_below g.H.NodeHash.half (map.get (g.S.NodeSource.stored c.look.new.source)) c.args.kind (Option Link) (Option Link)
    c.args.arena.now c.args.id.now c.below-place.result c.get.result c.args.key.now c.is_only.result c.toward-b.result c.in-Inner.links
    c.in_err-next-in-Inner.field-0.0 (c.in_err-next-in-Inner.ensures.way tells)))

-- nothing stopped the call below, and no leaf of the key went, so one looks at nothing beside it
pub returns-in-None-clause-way : goal.returns-in-None-clause-way
returns-in-None-clause-way g t c tells =
    let shown = rw c.in-Inner.is at (c.in_ok-look.ensures.seen tells) in
    let placed = rw c.in-Inner.is at c.in_ok-look.ensures.placed in
    let step =
    removal_step g.H.NodeHash.half (map.get (g.S.NodeSource.stored c.args.source.now)) c.args.kind
    (map.get (g.S.NodeSource.stored c.look.new.source)) c.args.arena.now c.args.lone c.args.id.now c.below-place.result c.args.link.now
    c.get.result c.args.key.now c.is_only.result c.toward-b.result c.in-Inner.links
    (ap (λ h. map.get h) (c.look.ensures.source.same tells)) placed.0 c.toward-b.ensures.value shown
    (lone_fork c.args.lone c.args.id.now _ _ shown) c.below-place.ensures c.get.ensures c.is_only.ensures in
    step
    ∙ passed_below g.H.NodeHash.half (map.get (g.S.NodeSource.stored c.look.new.source)) c.args.kind _ c.args.arena.now c.args.id.now
    c.below-place.result c.get.result c.args.key.now c.is_only.result c.toward-b.result c.in-Inner.links
    (c.in_ok-next-in-Inner.ensures.way tells) (rw c.in-None.is at (c.in_ok-next-in-Inner.ensures.takes.leaves tells))

-- where the key went below, and one looks at what is left alone
pub returns-in_err-left-in-Some-clause-way : goal.returns-in_err-left-in-Some-clause-way
returns-in_err-left-in-Some-clause-way g t c tells =
    let p = err_from_is_err_and c.from_residual-in_err-left-in-Some.result c.from_residual-in_err-left-in-Some.ensures.1 in
    let leaves = rw c.in-Some.is at (c.in_ok-next-in-Inner.ensures.takes.leaves tells) in
    let shown = rw c.in-Inner.is at (c.in_ok-look.ensures.seen tells) in
    let placed = rw c.in-Inner.is at c.in_ok-look.ensures.placed in
    let step =
    removal_step g.H.NodeHash.half (map.get (g.S.NodeSource.stored c.args.source.now)) c.args.kind
    (map.get (g.S.NodeSource.stored c.look.new.source)) c.args.arena.now c.args.lone c.args.id.now c.below-place.result c.args.link.now
    c.get.result c.args.key.now c.is_only.result c.toward-b.result c.in-Inner.links
    (ap (λ h. map.get h) (c.look.ensures.source.same tells)) placed.0 c.toward-b.ensures.value shown
    (lone_fork c.args.lone c.args.id.now _ _ shown) c.below-place.ensures c.get.ensures c.is_only.ensures in
    let left =
    left_below g.H.NodeHash.half (map.get (g.S.NodeSource.stored c.look.new.source)) c.args.kind
    (map.get (g.S.NodeSource.stored c.remove_at.new.source)) c.args.arena.now c.remove_at.new.arena
    c.in_ok-next-in-Inner.ensures.made.grows.0 c.args.id.now c.below-place.result c.get.result c.in-Some.next c.args.key.now
    c.is_only.result c.toward-b.result c.in-Inner.links
    c.in_ok-links-in-Some.links (ap (λ h. map.get h) (c.remove_at.ensures.source.same tells))
    c.in_ok-next-in-Inner.ensures.made.grows.1 placed.1 c.toward-b.ensures.small placed.2 c.below-place.ensures c.in_ok-links-in-Some.ensures
    (c.in_ok-next-in-Inner.ensures.way tells) leaves in
    rw (p.1, p.2) (goes_same (Option Link) (Err c.in_err-left-in-Some.field-0.0) _ _ (step ∙ left)
    (c.in_err-left-in-Some.ensures.stands.way tells))

-- nothing stopped the call below, and nothing the look at what is left beside the leaf
pub returns-clause-way : goal.returns-clause-way
returns-clause-way g t c tells =
    let leaves = rw c.in-Some.is at (c.in_ok-next-in-Inner.ensures.takes.leaves tells) in
    let shown = rw c.in-Inner.is at (c.in_ok-look.ensures.seen tells) in
    let placed = rw c.in-Inner.is at c.in_ok-look.ensures.placed in
    let step =
    removal_step g.H.NodeHash.half (map.get (g.S.NodeSource.stored c.args.source.now)) c.args.kind
    (map.get (g.S.NodeSource.stored c.look.new.source)) c.args.arena.now c.args.lone c.args.id.now c.below-place.result c.args.link.now
    c.get.result c.args.key.now c.is_only.result c.toward-b.result c.in-Inner.links
    (ap (λ h. map.get h) (c.look.ensures.source.same tells)) placed.0 c.toward-b.ensures.value shown
    (lone_fork c.args.lone c.args.id.now _ _ shown) c.below-place.ensures c.get.ensures c.is_only.ensures in
    let left =
    left_below g.H.NodeHash.half (map.get (g.S.NodeSource.stored c.look.new.source)) c.args.kind
    (map.get (g.S.NodeSource.stored c.remove_at.new.source)) c.args.arena.now c.remove_at.new.arena
    c.in_ok-next-in-Inner.ensures.made.grows.0 c.args.id.now c.below-place.result c.get.result c.in-Some.next c.args.key.now
    c.is_only.result c.toward-b.result c.in-Inner.links
    c.in_ok-links-in-Some.links (ap (λ h. map.get h) (c.remove_at.ensures.source.same tells))
    c.in_ok-next-in-Inner.ensures.made.grows.1 placed.1 c.toward-b.ensures.small placed.2 c.below-place.ensures c.in_ok-links-in-Some.ensures
    (c.in_ok-next-in-Inner.ensures.way tells) leaves in
    step ∙ left ∙ c.in_ok-left-in-Some.ensures.stands.way tells
