use Rattle.std.proofs.Common.{Ok, refl, sym, ap, subst, ◌∙◌, arith}
use Rattle.std.specs.FinMap as map
use Rattle.path_proof.specs.declared.way.Progress.{Progress}
use Rattle.path_proof.specs.Progressing.{Comes}
use Rattle.path_proof.proofs.shared.Walks.{fetched_as}
use Rattle.path_proof.proofs.reading.read_path.Goals as goal

-- a read that is at a root whose hash isn't zero is on its way
pub loop-next-init : goal.loop-next-init
loop-next-init g c = record {
  way = c.at_root-reading.ensures g.H.NodeHash.half c.args.kind c.args.key.now g.S.NodeSource.tells
      (map.get (g.S.NodeSource.stored c.args.source.now)) (sym c.is_zero.ensures ∙ c.if-is_zero.false);
  same = λ told. refl;
  rest = refl;
  later = omega arith;
}

-- what the source gave leads on to the next place
pub loop-next-preserved : goal.loop-next-preserved
loop-next-preserved g c =
    let fetched = fetched_as g.H.NodeHash.half g.S.NodeSource.tells
    (map.get (g.S.NodeSource.stored c.args.source.now)) (map.get (g.S.NodeSource.stored c.loop-next.source)) c.wanted.result.now _
    c.fetch-fetched.result c.wanted.ensures (λ told. ap map.get (c.loop-next.invariant.same told)) c.fetch-fetched.ensures.hash
    c.fetch-fetched.ensures.exact in
    let came = c.in_ok-next.ensures.comes c.args.root.now g.S.NodeSource.tells (map.get (g.S.NodeSource.stored c.args.source.now))
    (sym c.is_zero.ensures ∙ c.if-is_zero.false) c.loop-next.invariant.way fetched in
    record {
      way = subst (λ (p : Progress). Comes g.H.NodeHash.half c.args.kind c.args.root.now c.args.key.now g.S.NodeSource.tells
          (map.get (g.S.NodeSource.stored c.args.source.now)) (Ok p)) c.in-More.is came;
      same = λ told. c.fetch-fetched.ensures.source.same told ∙ c.loop-next.invariant.same told;
      rest = c.fetch-fetched.ensures.source.rest ∙ c.loop-next.invariant.rest;
      later = omega (arith, c.loop-next.invariant.later, c.fetch-fetched.ensures.source.later);
    }

-- what the source gave ends the path
pub returns-in-Done-clause-path : goal.returns-in-Done-clause-path
returns-in-Done-clause-path g c =
    let fetched = fetched_as g.H.NodeHash.half g.S.NodeSource.tells
    (map.get (g.S.NodeSource.stored c.args.source.now)) (map.get (g.S.NodeSource.stored c.loop-next.source)) c.wanted.result.now _
    c.fetch-fetched.result c.wanted.ensures (λ told. ap map.get (c.loop-next.invariant.same told)) c.fetch-fetched.ensures.hash
    c.fetch-fetched.ensures.exact in
    let came = c.in_ok-next.ensures.comes c.args.root.now g.S.NodeSource.tells (map.get (g.S.NodeSource.stored c.args.source.now))
    (sym c.is_zero.ensures ∙ c.if-is_zero.false) c.loop-next.invariant.way fetched in
    (subst (λ (p : Progress). Comes g.H.NodeHash.half c.args.kind c.args.root.now c.args.key.now g.S.NodeSource.tells
    (map.get (g.S.NodeSource.stored c.args.source.now)) (Ok p)) c.in-Done.is came).0

pub returns-in-Done-clause-held : goal.returns-in-Done-clause-held
returns-in-Done-clause-held g c =
    let fetched = fetched_as g.H.NodeHash.half g.S.NodeSource.tells
    (map.get (g.S.NodeSource.stored c.args.source.now)) (map.get (g.S.NodeSource.stored c.loop-next.source)) c.wanted.result.now _
    c.fetch-fetched.result c.wanted.ensures (λ told. ap map.get (c.loop-next.invariant.same told)) c.fetch-fetched.ensures.hash
    c.fetch-fetched.ensures.exact in
    let came = c.in_ok-next.ensures.comes c.args.root.now g.S.NodeSource.tells (map.get (g.S.NodeSource.stored c.args.source.now))
    (sym c.is_zero.ensures ∙ c.if-is_zero.false) c.loop-next.invariant.way fetched in
    (subst (λ (p : Progress). Comes g.H.NodeHash.half c.args.kind c.args.root.now c.args.key.now g.S.NodeSource.tells
    (map.get (g.S.NodeSource.stored c.args.source.now)) (Ok p)) c.in-Done.is came).1
