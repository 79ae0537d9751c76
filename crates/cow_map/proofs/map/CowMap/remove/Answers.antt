use Rattle.std.proofs.Common.{◌≡◌, ◌∙◌, ap, sym, subst, [], arith, Option, None, is_some, ◌-◌, length, Err, rules}
use Rattle.cow_map.specs.declared.link.Link.{Link}
use Rattle.std.specs.FinMap as map
use Rattle.ledger_spec.specs.Maps.{hash_cmp, get_in}
use Rattle.cow_map.specs.Trees.{StandsAt, StandsFor}
use Rattle.cow_map.specs.Edits.{Removes}
use Rattle.cow_map.specs.Unloaded.{KeepsReach}
use Rattle.cow_map.proofs.Freeing.{removal_free}
use Rattle.cow_map.proofs.Needing.{removed_keeps, same_keeps}
use Rattle.cow_map.proofs.Removing.{remove_absent}
use Rattle.cow_map.specs.Bodies.{CowTree}
use Rattle.cow_map.proofs.Maps.{cut_back, none_more}
use Rattle.cow_map.proofs.map.CowMap.remove.Goals as goal

-- the key isn't there, and the list is cut back to its old length, so no node is new
pub returns-in-Ok-None-clause-grows : goal.returns-in-Ok-None-clause-grows
returns-in-Ok-None-clause-grows g c = record {
  kind = ap (λ (m : CowTree). m.kind) c.self.view_is;
  nodes = (
    [],
    cut_back c.self.inside.nodes c.remove_at.ensures.made.grows.0 _ _ _ c.len-start.ensures c.remove_at.ensures.made.grows.1
        c.truncate.ensures ∙ ap (λ (m : CowTree). m.nodes) c.self.view_is ∙ none_more _,
    omega arith,
  );
}

-- the nodes that the failed removal has added are cut off again, so the list is the old one
pub returns-in-Err-clause-grows : goal.returns-in-Err-clause-grows
returns-in-Err-clause-grows g c = record {
  kind = ap (λ (m : CowTree). m.kind) c.self.view_is;
  nodes = (
    [],
    cut_back c.self.inside.nodes c.remove_at.ensures.made.grows.0 _ _ _ c.len-start.ensures c.remove_at.ensures.made.grows.1
        c.truncate-in-Err.ensures ∙ ap (λ (m : CowTree). m.nodes) c.self.view_is ∙ none_more _,
    omega arith,
  );
}

-- the items have nothing at the key, so without it they are the same, and so is the map
pub returns-in-Ok-None-clause-stands : goal.returns-in-Ok-None-clause-stands
returns-in-Ok-None-clause-stands g c tells small sub items stands =
    let N = map.get (g.S.NodeSource.stored c.args.source.now) in
    let inside = subst (λ (m : CowTree). StandsFor g.H.NodeHash.half small m items) (sym c.self.view_is) stands in
    let removes = rw c.in-Ok-None.field-0-is at (c.in-Ok-None.ensures.takes.removes tells) in
    let at_root = subst (λ p. Removes g.H.NodeHash.half N c.self.inside.kind c.self.inside.nodes c.remove_at.new.arena (64 - length p) p
    c.self.inside.top c.args.key.now None) c.root-root.ensures removes in
    let absent : get_in hash_cmp items c.args.key.now ≡ None = at_root small sub items inside in
    let cut = cut_back c.self.inside.nodes c.remove_at.ensures.made.grows.0 _ _ _ c.len-start.ensures c.remove_at.ensures.made.grows.1
    c.truncate.ensures in (
      ap is_some (sym absent),
      subst (λ es. StandsAt g.H.NodeHash.half small c.self.inside.kind c.truncate.new.self 64 [] c.self.inside.top es)
          (sym (remove_absent items c.args.key.now absent))
          (subst (λ ns. StandsAt g.H.NodeHash.half small c.self.inside.kind ns 64 [] c.self.inside.top items) (sym cut) inside),
    )

pub returns-in-Err-clause-edits : goal.returns-in-Err-clause-edits
returns-in-Err-clause-edits g c = record {
  reach = search rules;
  way = search rules;
  -- where the map stands for items nothing on the way or beside the leaf stops one, so the source failed or memory was refused
  free = λ tells items stands.
      let N = map.get (g.S.NodeSource.stored c.args.source.now) in
      let inside = subst (λ (m : CowTree). StandsFor g.H.NodeHash.half N m items) (sym c.self.view_is) stands in
      removal_free (Option Link) g.H.NodeHash.half N c.self.inside.kind c.self.inside.nodes c.self.inside.top c.root-root.result
      c.args.key.now items (Err c.in-Err.fault) c.root-root.ensures inside (c.in-Err.ensures.way tells);
}

pub returns-in-Ok-Some-clause-edits : goal.returns-in-Ok-Some-clause-edits
returns-in-Ok-Some-clause-edits g c = record {
  -- without the key the map stands also over just what the old one reaches, so it leaves nothing besides to the source
  reach = λ tells.
      let N = map.get (g.S.NodeSource.stored c.args.source.now) in
      let removes = rw c.in-Ok-Some.field-0-is at (c.in-Ok-Some.ensures.takes.removes tells) in
      subst (λ (m : CowTree). KeepsReach g.H.NodeHash.half N m
      (record { kind = c.self.inside.kind; nodes = c.remove_at.new.arena; top = c.in-Ok-Some.next }))
      c.self.view_is
      (removed_keeps g.H.NodeHash.half N c.self.inside.kind c.self.inside.nodes c.remove_at.new.arena c.self.inside.top c.in-Ok-Some.next
      c.root-root.result c.args.key.now c.root-root.ensures removes);
  way = search rules;
  free = search rules;
}

pub returns-in-Ok-None-clause-edits : goal.returns-in-Ok-None-clause-edits
returns-in-Ok-None-clause-edits g c = record {
  -- the list is cut back and the top stays, so the map leaves to the source what it left before
  reach = λ tells.
      let N = map.get (g.S.NodeSource.stored c.args.source.now) in
      let cut = cut_back c.self.inside.nodes c.remove_at.ensures.made.grows.0 _ _ _ c.len-start.ensures c.remove_at.ensures.made.grows.1
      c.truncate.ensures in
      let old : CowTree = record { kind = c.self.inside.kind; nodes = c.self.inside.nodes; top = c.self.inside.top } in
      subst (λ (m : CowTree). KeepsReach g.H.NodeHash.half N m
      (record { kind = c.self.inside.kind; nodes = c.truncate.new.self; top = c.self.inside.top }))
      c.self.view_is
      (subst (λ ns. KeepsReach g.H.NodeHash.half N old (record { kind = c.self.inside.kind; nodes = ns; top = c.self.inside.top }))
      (sym cut) (same_keeps g.H.NodeHash.half N old));
  way = search rules;
  free = search rules;
}
