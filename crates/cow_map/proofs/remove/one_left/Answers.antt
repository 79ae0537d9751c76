use Rattle.std.proofs.Common.{◌∙◌, ap, sym, subst, ◌-◌, length, slice_index_or, inl, inr, Err, rules}
use Rattle.std.specs.FinMap as map
use Rattle.std.proofs.lemmas.Result.{err_from_is_err_and}
use Rattle.cow_map.specs.declared.link.Link.{Link}
use Rattle.cow_map.specs.declared.link.Link.TheVariants.{Empty}
use Rattle.cow_map.specs.Trees.{found_at}
use Rattle.cow_map.specs.Edits.{IsLeaf, SettlesAt}
use Rattle.cow_map.proofs.Settling.{settles_by, leaf_settles, root_enough, fork_enough, none_enough}
use Rattle.cow_map.proofs.Lone.{left_at, leaf_sound, inner_sound}
use Rattle.cow_map.proofs.Maps.{positive}
use Rattle.cow_map.proofs.Putting.{goes_same}
use Rattle.cow_map.proofs.remove.one_left.Goals as goal

pub returns-then-depth-eq0-clause-stands : goal.returns-then-depth-eq0-clause-stands
returns-then-depth-eq0-clause-stands g c = record {
  -- at the root one item is enough for an inner node, and the one link that leads anywhere has one below it
  stands = λ tells small sub.
      settles_by g.H.NodeHash.half small c.args.kind c.args.arena.now (63 - length c.args.id.now) c.args.id.now c.args.links
      c.push_inner.new.self c.in_ok-push_inner.field-0 c.known.ensures c.requires.node.below c.known-2.ensures c.requires.node.inner
      c.in_ok-push_inner.ensures.ok.0 c.in_ok-push_inner.ensures.ok.1
      (root_enough g.H.NodeHash.half small c.args.kind c.args.arena.now (63 - length c.args.id.now) c.args.id.now c.args.links c.args.b
      c.requires.only (sym c.depth.ensures ∙ c.if-depth-eq0.true) c.requires.node.below);
  way = search rules;
  sound = λ tells.
      inner_sound g.H.NodeHash.half (map.get (g.S.NodeSource.stored c.args.source.now)) c.args.kind c.args.arena.now c.push_inner.new.self
      c.args.id.now c.in_ok-push_inner.field-0 c.args.links c.in_ok-push_inner.ensures.ok.1 c.in_ok-push_inner.ensures.ok.0
      c.requires.node.inner;
  some = search rules;
}

pub returns-then-branch-clause-stands : goal.returns-then-branch-clause-stands
returns-then-branch-clause-stands g c = record {
  -- the leaf's item is all that is left, and this place lies on the way to its key too, so the leaf moves up
  stands = λ tells small sub.
      let N = map.get (g.S.NodeSource.stored c.args.source.now) in
      let leaf = subst (IsLeaf c.below.result (found_at g.H.NodeHash.half N c.args.kind c.args.arena.now c.below.result c.get-link.result))
      c.if-branch.true (c.in_ok-is_leaf.ensures.leaf tells) in
      let found = ap (λ p. found_at g.H.NodeHash.half N c.args.kind c.args.arena.now p (slice_index_or c.args.links c.args.b Empty))
      (sym c.below.ensures)
      ∙ ap (λ l. found_at g.H.NodeHash.half N c.args.kind c.args.arena.now c.below.result l) (sym c.get-link.ensures) ∙ leaf.2 in
      subst (λ l. SettlesAt g.H.NodeHash.half small c.args.kind c.args.arena.now c.args.arena.now (63 - length c.args.id.now) c.args.id.now
      c.args.links l) (sym c.get-link.ensures)
      (leaf_settles g.H.NodeHash.half small c.args.kind c.args.arena.now (63 - length c.args.id.now) c.args.id.now c.args.links c.args.b
      c.requires.only N sub leaf.0 leaf.1 found (positive _ c.depth.result c.depth.ensures c.if-depth-eq0.false));
  -- below the root one looks at the only branch left, and the look that saw the leaf wasn't stopped
  way = λ tells.
      left_at g.H.NodeHash.half (map.get (g.S.NodeSource.stored c.args.source.now)) c.args.kind c.args.arena.now c.args.id.now
      c.below.result c.get-link.result c.args.links c.args.b c.requires.only
      (positive _ c.depth.result c.depth.ensures c.if-depth-eq0.false) c.below.ensures c.get-link.ensures
      ∙ c.in_ok-is_leaf.ensures.way tells;
  -- this place is below the root and on the way to the leaf's key, so the leaf breaks no rule here
  sound = λ tells.
      let N = map.get (g.S.NodeSource.stored c.args.source.now) in
      let leaf = subst (IsLeaf c.below.result (found_at g.H.NodeHash.half N c.args.kind c.args.arena.now c.below.result c.get-link.result))
      c.if-branch.true (c.in_ok-is_leaf.ensures.leaf tells) in
      leaf_sound g.H.NodeHash.half N c.args.kind c.args.arena.now c.args.id.now c.below.result c.args.b c.get-link.result leaf.0 leaf.1
      leaf.2 c.below.ensures leaf.3 (positive _ c.depth.result c.depth.ensures c.if-depth-eq0.false);
  some = search rules;
}

pub returns-clause-stands : goal.returns-clause-stands
returns-clause-stands g c = record {
  -- the one link leads somewhere but to no leaf, so to an inner node, whose two items are enough for one here
  stands = λ tells small sub.
      let N = map.get (g.S.NodeSource.stored c.args.source.now) in
      let leaf = subst (IsLeaf c.below.result (found_at g.H.NodeHash.half N c.args.kind c.args.arena.now c.below.result c.get-link.result))
      c.if-branch.false (c.in_ok-is_leaf.ensures.leaf tells) in
      let at = ap (λ p. found_at g.H.NodeHash.half N c.args.kind c.args.arena.now p (slice_index_or c.args.links c.args.b Empty))
      (sym c.below.ensures)
      ∙ ap (λ l. found_at g.H.NodeHash.half N c.args.kind c.args.arena.now c.below.result l) (sym c.get-link.ensures) in
      settles_by g.H.NodeHash.half small c.args.kind c.args.arena.now (63 - length c.args.id.now) c.args.id.now c.args.links
      c.push_inner-2.new.self c.in_ok-push_inner-2.field-0 c.known.ensures c.requires.node.below c.known-2.ensures c.requires.node.inner
      c.in_ok-push_inner-2.ensures.ok.0 c.in_ok-push_inner-2.ensures.ok.1
      (elim leaf [
        | inl none_is ↦ none_enough g.H.NodeHash.half small c.args.kind c.args.arena.now (63 - length c.args.id.now) c.args.id.now
            c.args.links c.args.b c.requires.only c.requires.node.below N sub (at ∙ none_is)
        | inr fork_is ↦ fork_enough g.H.NodeHash.half small c.args.kind c.args.arena.now (63 - length c.args.id.now) c.args.id.now
            c.args.links c.args.b c.requires.only N sub fork_is.0 (at ∙ fork_is.1)
      ]);
  -- below the root one looks at the only branch left, and the look that saw no leaf wasn't stopped either
  way = λ tells.
      left_at g.H.NodeHash.half (map.get (g.S.NodeSource.stored c.args.source.now)) c.args.kind c.args.arena.now c.args.id.now
      c.below.result c.get-link.result c.args.links c.args.b c.requires.only
      (positive _ c.depth.result c.depth.ensures c.if-depth-eq0.false) c.below.ensures c.get-link.ensures
      ∙ c.in_ok-is_leaf.ensures.way tells;
  sound = λ tells.
      inner_sound g.H.NodeHash.half (map.get (g.S.NodeSource.stored c.args.source.now)) c.args.kind c.args.arena.now c.push_inner-2.new.self
      c.args.id.now c.in_ok-push_inner-2.field-0 c.args.links c.in_ok-push_inner-2.ensures.ok.1 c.in_ok-push_inner-2.ensures.ok.0
      c.requires.node.inner;
  some = search rules;
}

pub returns-in_err-is_leaf-clause-stands : goal.returns-in_err-is_leaf-clause-stands
returns-in_err-is_leaf-clause-stands g c = record {
  stands = search rules;
  -- one stops at the branch where one looks whether a leaf is left
  way = λ tells.
      let p = err_from_is_err_and c.from_residual-in_err-is_leaf.result c.from_residual-in_err-is_leaf.ensures.1 in
      rw (p.1, p.2) (goes_same Link (Err c.in_err-is_leaf.field-0.0) _ _
      (left_at g.H.NodeHash.half (map.get (g.S.NodeSource.stored c.args.source.now)) c.args.kind c.args.arena.now c.args.id.now
      c.below.result c.get-link.result c.args.links c.args.b c.requires.only
      (positive _ c.depth.result c.depth.ensures c.if-depth-eq0.false) c.below.ensures c.get-link.ensures)
      (c.in_err-is_leaf.ensures.way tells));
  sound = search rules;
  some = search rules;
}
