use Rattle.std.proofs.Common.{◌-◌, ◌<◌, ◌∙◌, ◌++◌, ◌∷◌, [], ◌≡◌, length, refl, sym, ap, subst, arith, true, false, Some}
use Rattle.std.specs.FinMap as map
use Rattle.std.proofs.lemmas.List.{get_or_default}
use Rattle.shamap_node.specs.Nodes.{held, hashes_above}
use Rattle.ledger_spec.specs.Pages.{page_from}
use Rattle.std.specs.List.{slice_index_or}
use Rattle.ledger_spec.specs.Bytes.{is_zero, zero_hash}
use Rattle.path_proof.specs.declared.answer.ReadFault.TheVariants.{Memory}
use Rattle.map_cursor.specs.Shown.{shown, Takes}
use Rattle.map_cursor.specs.Visits.{Visits, branch_reading}
use Rattle.map_cursor.proofs.Visiting.{skip_is, skip_visited, zero_skipped, place_refused, memory_refused, handed_on, leaf_visited}
use Rattle.map_cursor.proofs.Visiting.{inner_visited, inner_refused, nothing_done, branch_visited, branch_refused, reading_is, level_of}
use Rattle.map_cursor.proofs.visits.+visits.Goals as goal

-- nothing is wanted from a place that is skipped, so it says no item and needs no node
pub visit-returns-then-skips-clause-visited : goal.visit-returns-then-skips-clause-visited
visit-returns-then-skips-clause-visited g t c =
    skip_visited g.H.NodeHash.half c.args.query.now.kind g.S.NodeSource.tells (map.get (g.S.NodeSource.stored c.args.source.now))
    c.args.query.now.after (64 - length c.args.id.now) (hashes_above c.args.parent) c.args.id.now c.args.wanted.now c.args.query.now.most
    (shown c.args.page.now)
    (skip_is true c.skips.result c.args.query.now.after c.args.id.now c.args.wanted.now c.args.query.now.most c.len.result
    c.args.page.now.leaves.items c.if-skips.true c.skips.ensures (c.len.ensures ∙ c.args.page.now.leaves.ok.0))

-- the place isn't skipped, so a node is wanted for it, and this is where none that fits came
pub visit-returns-in_err-node-clause-visited : goal.visit-returns-in_err-node-clause-visited
visit-returns-in_err-node-clause-visited g t c =
    handed_on g.H.NodeHash.half c.args.query.now.kind g.S.NodeSource.tells (map.get (g.S.NodeSource.stored c.args.source.now))
    (page_from g.H.NodeHash.half c.args.query.now.kind c.args.query.now.after (64 - length c.args.id.now) (hashes_above c.args.parent)
    c.args.id.now c.args.wanted.now) c.args.query.now.most (shown c.args.page.now) _ _ c.in_err-node.field-0.0 c.from_residual.ensures
    (place_refused g.H.NodeHash.half c.args.query.now.kind g.S.NodeSource.tells (map.get (g.S.NodeSource.stored c.args.source.now))
    c.args.query.now.after (64 - length c.args.id.now) (hashes_above c.args.parent) c.args.id.now c.args.wanted.now
    c.args.query.now.most (shown c.args.page.now) c.in_err-node.field-0.0
    (skip_is false c.skips.result c.args.query.now.after c.args.id.now c.args.wanted.now c.args.query.now.most c.len.result
    c.args.page.now.leaves.items c.if-skips.false c.skips.ensures (c.len.ensures ∙ c.args.page.now.leaves.ok.0))
    c.in_err-node.ensures.ends)

-- a page fails to take a node only for want of memory, which may end a visit wherever a node is wanted
pub visit-returns-in_default-take-clause-visited : goal.visit-returns-in_default-take-clause-visited
visit-returns-in_default-take-clause-visited g t c =
    memory_refused g.H.NodeHash.half c.args.query.now.kind g.S.NodeSource.tells (map.get (g.S.NodeSource.stored c.args.source.now))
    c.args.query.now.after (64 - length c.args.id.now) (hashes_above c.args.parent) c.args.id.now c.args.wanted.now
    c.args.query.now.most (shown c.args.page.now) Memory
    (skip_is false c.skips.result c.args.query.now.after c.args.id.now c.args.wanted.now c.args.query.now.most c.len.result
    c.args.page.now.leaves.items c.if-skips.false c.skips.ensures (c.len.ensures ∙ c.args.page.now.leaves.ok.0)) refl

pub visit-returns-in_default-take_shared-clause-visited : goal.visit-returns-in_default-take_shared-clause-visited
visit-returns-in_default-take_shared-clause-visited g t c =
    memory_refused g.H.NodeHash.half c.args.query.now.kind g.S.NodeSource.tells (map.get (g.S.NodeSource.stored c.args.source.now))
    c.args.query.now.after (64 - length c.args.id.now) (hashes_above c.args.parent) c.args.id.now c.args.wanted.now
    c.args.query.now.most (shown c.args.page.now) Memory
    (skip_is false c.skips.result c.args.query.now.after c.args.id.now c.args.wanted.now c.args.query.now.most c.len.result
    c.args.page.now.leaves.items c.if-skips.false c.skips.ensures (c.len.ensures ∙ c.args.page.now.leaves.ok.0)) refl

-- the inner node fits and what follows is its branches' turn, so what they want is wanted here
pub visit-returns-in_err-visit_branches-clause-visited : goal.visit-returns-in_err-visit_branches-clause-visited
visit-returns-in_err-visit_branches-clause-visited g t c =
    let takes : Takes c.args.query.now.after (held c.in_ok-node.node.value) (shown c.args.page.now) (shown c.take_shared.new.self)
    (Some c.in-Some.inner.now.hashes) =
    subst (Takes c.args.query.now.after (held c.in_ok-node.node.value) (shown c.args.page.now) (shown c.take_shared.new.self))
    (sym c.inner_in.ensures ∙ ap hashes_above c.in-Some.is) c.in-Ok-take_shared.ensures.taken in
    handed_on g.H.NodeHash.half c.args.query.now.kind g.S.NodeSource.tells (map.get (g.S.NodeSource.stored c.args.source.now))
    (page_from g.H.NodeHash.half c.args.query.now.kind c.args.query.now.after (64 - length c.args.id.now) (hashes_above c.args.parent)
    c.args.id.now c.args.wanted.now) c.args.query.now.most (shown c.args.page.now) _ _ c.in_err-visit_branches.field-0.0
    c.from_residual-in_err-visit_branches.ensures
    (inner_refused g.H.NodeHash.half c.args.query.now.kind g.S.NodeSource.tells (map.get (g.S.NodeSource.stored c.args.source.now))
    (map.get (g.S.NodeSource.stored c.node_at.new.source)) (λ told. ap map.get (c.in_ok-node.ensures.source.same told))
    c.args.query.now.after (64 - length c.args.id.now) (63 - length c.args.id.now) (hashes_above c.args.parent) c.args.id.now
    c.args.wanted.now c.args.query.now.most (shown c.args.page.now) (shown c.take_shared.new.self) (held c.in_ok-node.node.value)
    c.in-Some.inner.now.hashes
    (level_of g.H.NodeHash.half c.args.query.now.kind (hashes_above c.args.parent) c.args.id.now c.args.wanted.now
    (held c.in_ok-node.node.value) c.in-Some.inner.now.hashes c.known.ensures.short c.in_ok-node.ensures.fits takes.below_is)
    (skip_is false c.skips.result c.args.query.now.after c.args.id.now c.args.wanted.now c.args.query.now.most c.len.result
    c.args.page.now.leaves.items c.if-skips.false c.skips.ensures (c.len.ensures ∙ c.args.page.now.leaves.ok.0))
    c.in_ok-node.ensures.fits c.in_ok-node.ensures.held takes c.in_err-visit_branches.field-0.0
    c.in_err-visit_branches.ensures.visited)

-- the node fits and is a leaf, so the place says its item, if that is behind the key, and no more
pub visit-returns-in_default-clause-visited : goal.visit-returns-in_default-clause-visited
visit-returns-in_default-clause-visited g t c =
    leaf_visited g.H.NodeHash.half c.args.query.now.kind g.S.NodeSource.tells (map.get (g.S.NodeSource.stored c.args.source.now))
    c.args.query.now.after (64 - length c.args.id.now) (hashes_above c.args.parent) c.args.id.now c.args.wanted.now
    c.args.query.now.most (shown c.args.page.now) (held c.in_ok-node.node.value) (shown c.take.new.self)
    (skip_is false c.skips.result c.args.query.now.after c.args.id.now c.args.wanted.now c.args.query.now.most c.len.result
    c.args.page.now.leaves.items c.if-skips.false c.skips.ensures (c.len.ensures ∙ c.args.page.now.leaves.ok.0))
    c.in_ok-node.ensures.fits c.in_ok-node.ensures.held
    (subst (Takes c.args.query.now.after (held c.in_ok-node.node.value) (shown c.args.page.now) (shown c.take.new.self))
    (sym c.inner_in.ensures ∙ ap hashes_above c.in_default.is) c.in-Ok.ensures.taken)

-- the inner node fits, and a place with one says what its branches say in turn
pub visit-returns-clause-visited : goal.visit-returns-clause-visited
visit-returns-clause-visited g t c =
    let takes : Takes c.args.query.now.after (held c.in_ok-node.node.value) (shown c.args.page.now) (shown c.take_shared.new.self)
    (Some c.in-Some.inner.now.hashes) =
    subst (Takes c.args.query.now.after (held c.in_ok-node.node.value) (shown c.args.page.now) (shown c.take_shared.new.self))
    (sym c.inner_in.ensures ∙ ap hashes_above c.in-Some.is) c.in-Ok-take_shared.ensures.taken in
    inner_visited g.H.NodeHash.half c.args.query.now.kind g.S.NodeSource.tells (map.get (g.S.NodeSource.stored c.args.source.now))
    (map.get (g.S.NodeSource.stored c.node_at.new.source)) (λ told. ap map.get (c.in_ok-node.ensures.source.same told))
    c.args.query.now.after (64 - length c.args.id.now) (63 - length c.args.id.now) (hashes_above c.args.parent) c.args.id.now
    c.args.wanted.now c.args.query.now.most (shown c.args.page.now) (shown c.take_shared.new.self) (held c.in_ok-node.node.value)
    c.in-Some.inner.now.hashes
    (level_of g.H.NodeHash.half c.args.query.now.kind (hashes_above c.args.parent) c.args.id.now c.args.wanted.now
    (held c.in_ok-node.node.value) c.in-Some.inner.now.hashes c.known.ensures.short c.in_ok-node.ensures.fits takes.below_is)
    (skip_is false c.skips.result c.args.query.now.after c.args.id.now c.args.wanted.now c.args.query.now.most c.len.result
    c.args.page.now.leaves.items c.if-skips.false c.skips.ensures (c.len.ensures ∙ c.args.page.now.leaves.ok.0))
    c.in_ok-node.ensures.fits c.in_ok-node.ensures.held takes _
    c.in_ok-visit_branches.ensures.visited

-- no branch was visited, so nothing was added, and no branches in turn say nothing
pub visit_branches-loop-b-init : goal.visit_branches-loop-b-init
visit_branches-loop-b-init g t c =
    record {
      visited = nothing_done _ c.args.query.now.kind _ _ _ _ _ (λ rest. refl);
      further = λ all. all;
      same = λ told. refl;
      rest = refl;
      later =
          omega arith;
    }

-- the branches before it have said their items, so what this branch wants is what all want in turn
pub visit_branches-returns-in_err-visit_branch-clause-visited : goal.visit_branches-returns-in_err-visit_branch-clause-visited
visit_branches-returns-in_err-visit_branch-clause-visited g t c =
    handed_on g.H.NodeHash.half c.args.query.now.kind g.S.NodeSource.tells (map.get (g.S.NodeSource.stored c.args.source.now)) _
    c.args.query.now.most (shown c.args.page.now) _ _ c.in_err-visit_branch.field-0.0 c.from_residual.ensures
    (branch_refused g.H.NodeHash.half c.args.query.now.kind g.S.NodeSource.tells (map.get (g.S.NodeSource.stored c.args.source.now))
    (map.get (g.S.NodeSource.stored c.loop-b.source)) (λ told. ap map.get (c.loop-b.invariant.same told))
    (branch_reading g.H.NodeHash.half c.args.query.now.kind c.args.query.now.after (63 - length c.args.id.now) c.args.inner.now.hashes
    c.args.id.now) c.args.query.now.most c.loop-b.b (shown c.args.page.now)
    (shown c.loop-b.page) c.loop-b.invariant.visited _ refl c.loop-b-test.true
    c.in_err-visit_branch.field-0.0
    c.in_err-visit_branch.ensures.visited)

-- what one branch more adds comes behind what the branches before it have added
pub visit_branches-loop-b-preserved : goal.visit_branches-loop-b-preserved
visit_branches-loop-b-preserved g t c = record {
  visited =
      branch_visited g.H.NodeHash.half c.args.query.now.kind g.S.NodeSource.tells (map.get (g.S.NodeSource.stored c.args.source.now))
      (map.get (g.S.NodeSource.stored c.loop-b.source)) (λ told. ap map.get (c.loop-b.invariant.same told))
      (branch_reading g.H.NodeHash.half c.args.query.now.kind c.args.query.now.after (63 - length c.args.id.now)
      c.args.inner.now.hashes c.args.id.now) c.args.query.now.most c.loop-b.b (shown c.args.page.now)
      (shown c.loop-b.page) c.loop-b.invariant.visited _ refl _
      c.in_ok-visit_branch.ensures.visited;
  further = λ all. c.in_ok-visit_branch.ensures.further (c.loop-b.invariant.further all);
  same = λ told. c.in_ok-visit_branch.ensures.source.same told ∙ c.loop-b.invariant.same told;
  rest = c.in_ok-visit_branch.ensures.source.rest ∙ c.loop-b.invariant.rest;
  later = omega (arith, c.loop-b.invariant.later, c.in_ok-visit_branch.ensures.source.later);
}

-- an empty branch adds nothing
pub visit_branches-loop-b-preserved-then-is_zero : goal.visit_branches-loop-b-preserved-then-is_zero
visit_branches-loop-b-preserved-then-is_zero g t c =
    let low : c.loop-b.b < length c.hashes-hashes.result.now = omega (arith, c.type_inv.hashes, c.loop-b-test.true) in
    let zero : is_zero (slice_index_or c.args.inner.now.hashes c.loop-b.b zero_hash) ≡ true =
    ap (λ hashes. is_zero (slice_index_or hashes c.loop-b.b zero_hash)) (sym c.hashes-hashes.ensures)
    ∙ ap is_zero (get_or_default c.hashes-hashes.result.now c.loop-b.b zero_hash c.index-hashes-b.result low) ∙ sym c.if-is_zero.ensures in
    record {
      visited =
          branch_visited g.H.NodeHash.half c.args.query.now.kind g.S.NodeSource.tells
          (map.get (g.S.NodeSource.stored c.args.source.now))
          (map.get (g.S.NodeSource.stored c.loop-b.source)) (λ told. ap map.get (c.loop-b.invariant.same told))
          (branch_reading g.H.NodeHash.half c.args.query.now.kind c.args.query.now.after (63 - length c.args.id.now)
          c.args.inner.now.hashes c.args.id.now) c.args.query.now.most c.loop-b.b (shown c.args.page.now)
          (shown c.loop-b.page) c.loop-b.invariant.visited _ refl _
          (skip_visited g.H.NodeHash.half c.args.query.now.kind g.S.NodeSource.tells (map.get (g.S.NodeSource.stored c.loop-b.source))
          c.args.query.now.after (63 - length c.args.id.now) (Some c.args.inner.now.hashes) (c.args.id.now ++ c.loop-b.b ∷ [])
          (slice_index_or c.args.inner.now.hashes c.loop-b.b zero_hash) c.args.query.now.most (shown c.loop-b.page)
          (zero_skipped c.args.query.now.after (c.args.id.now ++ c.loop-b.b ∷ [])
          (slice_index_or c.args.inner.now.hashes c.loop-b.b zero_hash)
          (c.args.query.now.most - length (shown c.loop-b.page).items) zero));
      further = λ all. c.loop-b.invariant.further all;
      same = λ told. c.loop-b.invariant.same told;
      rest = c.loop-b.invariant.rest;
      later = c.loop-b.invariant.later;
    }

-- what is said of the place below is what is said of the branch
pub visit_branch-returns-clause-visited : goal.visit_branch-returns-clause-visited
visit_branch-returns-clause-visited g t c =
    subst (λ reading. Visits g.H.NodeHash.half c.args.query.now.kind g.S.NodeSource.tells
    (map.get (g.S.NodeSource.stored c.args.source.now)) reading c.args.query.now.most (shown c.args.page.now) (shown c.visit.new.page)
    c.visit.result)
    (reading_is g.H.NodeHash.half c.args.query.now.kind c.args.query.now.after c.args.inner.now.hashes c.args.id.now c.in-Some.below
    c.args.b c.args.wanted.now c.requires.levels c.in-Some.ensures.below c.requires.hash)
    c.visit.ensures.visited
