use Rattle.std.proofs.Common.{◌∙◌, ap, sym, subst, [], arith, Err, rules}
use Rattle.std.specs.FinMap as map
use Rattle.cow_map.specs.declared.link.Link.{Link}
use Rattle.cow_map.specs.Bodies.{CowTree}
use Rattle.cow_map.specs.Trees.{StandsFor}
use Rattle.cow_map.specs.Unloaded.{KeepsReach}
use Rattle.cow_map.proofs.Freeing.{way_free}
use Rattle.cow_map.proofs.Needing.{set_keeps}
use Rattle.cow_map.proofs.Maps.{cut_back, none_more}
use Rattle.cow_map.proofs.map.CowMap.put.Goals as goal

-- the nodes that the failed put has added are cut off again, so the list is the old one
pub returns-in-Err-clause-grows : goal.returns-in-Err-clause-grows
returns-in-Err-clause-grows g c = record {
  kind = ap (λ (m : CowTree). m.kind) c.self.view_is;
  nodes = (
    [],
    cut_back c.self.inside.nodes c.put_at.ensures.made.grows.0 _ _ _ c.len-start.ensures c.put_at.ensures.made.grows.1 c.truncate.ensures
        ∙ ap (λ (m : CowTree). m.nodes) c.self.view_is ∙ none_more _,
    omega arith,
  );
}

pub returns-in-Err-clause-edits : goal.returns-in-Err-clause-edits
returns-in-Err-clause-edits g c = record {
  reach = search rules;
  way = search rules;
  -- where the map stands for items nothing is in the way, so a put that fails met a fault of the source or want of memory
  free = λ tells items stands.
      let N = map.get (g.S.NodeSource.stored c.args.source.now) in
      let inside = subst (λ (m : CowTree). StandsFor g.H.NodeHash.half N m items) (sym c.self.view_is) stands in
      way_free Link g.H.NodeHash.half N c.self.inside.kind c.self.inside.nodes c.self.inside.top c.root-root.result c.args.item.key items
      (Err c.in-Err.fault) c.root-root.ensures inside (c.in-Err.ensures.way tells);
}

pub returns-in-Ok-clause-edits : goal.returns-in-Ok-clause-edits
returns-in-Ok-clause-edits g c = record {
  -- the new map stands also over just that part of the source which the old one reaches, so it leaves nothing besides
  reach = λ tells.
      let N = map.get (g.S.NodeSource.stored c.args.source.now) in
      subst (λ (m : CowTree). KeepsReach g.H.NodeHash.half N m
      (record { kind = c.self.inside.kind; nodes = c.put_at.new.arena; top = c.in-Ok.next }))
      c.self.view_is
      (set_keeps g.H.NodeHash.half N c.self.inside.kind c.self.inside.nodes c.put_at.new.arena c.self.inside.top c.in-Ok.next
      c.root-root.result
      c.args.item.key c.root-root.ensures c.args.item.value (c.in-Ok.ensures.sets tells));
  way = search rules;
  free = search rules;
}
