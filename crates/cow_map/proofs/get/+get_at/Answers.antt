use Rattle.std.proofs.Common.{◌∙◌, ap, ◌-◌, length, Option, Err}
use Rattle.std.specs.FinMap as map
use Rattle.std.proofs.lemmas.Result.{err_from_is_err_and}
use Rattle.ledger_spec.specs.Bytes.{Bytes}
use Rattle.cow_map.proofs.Putting.{lone_none, lone_one, lone_fork, way_none, way_one, way_step, way_stops, goes_same}
use Rattle.cow_map.proofs.Getting.{none_gets, leaf_gets, fork_gets}
use Rattle.cow_map.proofs.get.+get_at.Goals as goal

pub returns-in_err-look-clause-way : goal.returns-in_err-look-clause-way
returns-in_err-look-clause-way g t c tells =
    let p = err_from_is_err_and c.from_residual.result c.from_residual.ensures.1 in
    rw (p.1, p.2) (way_stops _ _ _ _ _ _ _ _ (Option Bytes) _ _ (c.in_err-look.ensures.seen tells))

-- an inner node stops no one, so what stops the read below the key's branch is the first thing on the way
pub returns-in_err-get_at-in-Inner-clause-way : goal.returns-in_err-get_at-in-Inner-clause-way
returns-in_err-get_at-in-Inner-clause-way g t c tells =
    let p = err_from_is_err_and c.from_residual-in_err-get_at-in-Inner.result c.from_residual-in_err-get_at-in-Inner.ensures.1 in
    let shown = rw c.in-Inner.is at (c.in_ok-look.ensures.seen tells) in
    let placed = rw c.in-Inner.is at c.in_ok-look.ensures.placed in
    rw (p.1, p.2) (goes_same (Option Bytes) (Err c.in_err-get_at-in-Inner.field-0.0) _ _
    (way_step g.H.NodeHash.half (map.get (g.S.NodeSource.stored c.args.source.now)) c.args.kind c.args.arena.now c.args.lone c.args.id.now
    c.args.link.now c.args.key.now (map.get (g.S.NodeSource.stored c.look.new.source))
    c.below.result c.get.result c.is_only.result c.toward-b.result c.in-Inner.links (ap (λ h. map.get h) (c.look.ensures.source.same tells))
    placed.0 c.toward-b.ensures.value shown c.below.ensures c.get.ensures c.is_only.ensures) (c.in_err-get_at-in-Inner.ensures.way tells))

pub returns-in-Nothing-clause-gets : goal.returns-in-Nothing-clause-gets
returns-in-Nothing-clause-gets g t c tells =
    let shown = rw c.in-Nothing.is at (c.in_ok-look.ensures.seen tells) in
    none_gets g.H.NodeHash.half (map.get (g.S.NodeSource.stored c.args.source.now)) c.args.kind c.args.arena.now c.args.id.now
    c.args.link.now c.args.key.now (64 - length c.args.id.now) (lone_none c.args.lone c.args.id.now _ shown)

pub returns-in-Nothing-clause-way : goal.returns-in-Nothing-clause-way
returns-in-Nothing-clause-way g t c tells =
    let shown = rw c.in-Nothing.is at (c.in_ok-look.ensures.seen tells) in
    way_none _ _ _ _ _ _ _ _ _ shown

-- the leaf is the only entry here, so its data is the answer just where its key is the one that is asked for
pub returns-in-Leaf-clause-gets : goal.returns-in-Leaf-clause-gets
returns-in-Leaf-clause-gets g t c tells =
    let shown = rw c.in-Leaf.is at (c.in_ok-look.ensures.seen tells) in
    leaf_gets g.H.NodeHash.half (map.get (g.S.NodeSource.stored c.args.source.now)) c.args.kind c.args.arena.now c.args.id.now
    c.args.link.now c.args.key.now (64 - length c.args.id.now) c.in-Leaf.own c.in-Leaf.«data» c.if_same.result
    (lone_one c.args.lone c.args.id.now _ _ _ shown) c.if_same.ensures

pub returns-in-Leaf-clause-way : goal.returns-in-Leaf-clause-way
returns-in-Leaf-clause-way g t c tells =
    let shown = rw c.in-Leaf.is at (c.in_ok-look.ensures.seen tells) in
    way_one _ _ _ _ _ _ _ _ _ c.in-Leaf.own c.in-Leaf.«data» shown

-- an entry with the key can stand below its nibble's branch alone, so what is found there is all there is of it
pub returns-in_ok-get_at-in-Inner-clause-gets : goal.returns-in_ok-get_at-in-Inner-clause-gets
returns-in_ok-get_at-in-Inner-clause-gets g t c tells =
    let shown = rw c.in-Inner.is at (c.in_ok-look.ensures.seen tells) in
    let placed = rw c.in-Inner.is at c.in_ok-look.ensures.placed in
    fork_gets g.H.NodeHash.half (map.get (g.S.NodeSource.stored c.args.source.now)) c.args.kind c.args.arena.now c.args.id.now
    c.args.link.now c.args.key.now (map.get (g.S.NodeSource.stored c.look.new.source)) c.below.result c.get.result c.in-Inner.links
    c.toward-b.result
    c.in_ok-get_at-in-Inner.field-0 (ap (λ h. map.get h) (c.look.ensures.source.same tells)) (lone_fork c.args.lone c.args.id.now _ _ shown)
    placed.0 c.toward-b.ensures.small (c.toward-b.ensures.under c.requires.under) c.below.ensures c.get.ensures
    (c.in_ok-get_at-in-Inner.ensures.gets tells)

-- the inner node is passed, and nothing stopped the read below the key's branch, so nothing is in the way
pub returns-in_ok-get_at-in-Inner-clause-way : goal.returns-in_ok-get_at-in-Inner-clause-way
returns-in_ok-get_at-in-Inner-clause-way g t c tells =
    let shown = rw c.in-Inner.is at (c.in_ok-look.ensures.seen tells) in
    let placed = rw c.in-Inner.is at c.in_ok-look.ensures.placed in
    way_step g.H.NodeHash.half (map.get (g.S.NodeSource.stored c.args.source.now)) c.args.kind c.args.arena.now c.args.lone c.args.id.now
    c.args.link.now c.args.key.now (map.get (g.S.NodeSource.stored c.look.new.source))
    c.below.result c.get.result c.is_only.result c.toward-b.result c.in-Inner.links (ap (λ h. map.get h) (c.look.ensures.source.same tells))
    placed.0 c.toward-b.ensures.value shown c.below.ensures c.get.ensures c.is_only.ensures ∙ c.in_ok-get_at-in-Inner.ensures.way tells
