use Rattle.std.proofs.Common.{◌-◌, length, rules}
use Rattle.std.specs.FinMap as map
use Rattle.cow_map.proofs.Lone.{left_many, inner_sound}
use Rattle.cow_map.proofs.Settling.{settles_by, nowhere_settles, many_enough}
use Rattle.cow_map.proofs.remove.settle.Goals as goal

pub returns-in-Nowhere-clause-stands : goal.returns-in-Nowhere-clause-stands
returns-in-Nowhere-clause-stands g c = record {
  stands = λ tells small sub.
      nowhere_settles g.H.NodeHash.half small c.args.kind c.args.arena.now (63 - length c.args.id.now) c.args.id.now c.args.links
      c.in-Nowhere.ensures;
  way = search rules;
  sound = search rules;
  some = search rules;
}

-- two links lead somewhere and each to an item at least, so there are enough for an inner node
pub returns-in_ok-push_inner-in-Many-clause-stands : goal.returns-in_ok-push_inner-in-Many-clause-stands
returns-in_ok-push_inner-in-Many-clause-stands g c = record {
  stands = λ tells small sub.
      settles_by g.H.NodeHash.half small c.args.kind c.args.arena.now (63 - length c.args.id.now) c.args.id.now c.args.links
      c.push_inner.new.self c.in_ok-push_inner-in-Many.field-0 c.known.ensures c.requires.below c.known-2.ensures c.requires.inner
      c.in_ok-push_inner-in-Many.ensures.ok.0 c.in_ok-push_inner-in-Many.ensures.ok.1
      (many_enough g.H.NodeHash.half small c.args.kind c.args.arena.now (63 - length c.args.id.now) c.args.id.now c.args.links
      c.in-Many.ensures c.requires.below);
  way = λ tells.
      left_many g.H.NodeHash.half (map.get (g.S.NodeSource.stored c.args.source.now)) c.args.kind c.args.arena.now c.args.id.now
      c.args.links c.in-Many.ensures;
  sound = λ tells.
      inner_sound g.H.NodeHash.half (map.get (g.S.NodeSource.stored c.args.source.now)) c.args.kind c.args.arena.now c.push_inner.new.self
      c.args.id.now c.in_ok-push_inner-in-Many.field-0 c.args.links
      c.in_ok-push_inner-in-Many.ensures.ok.1 c.in_ok-push_inner-in-Many.ensures.ok.0 c.requires.inner;
  some = search rules;
}
