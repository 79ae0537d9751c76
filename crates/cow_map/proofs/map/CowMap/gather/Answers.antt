use Rattle.std.proofs.Common.{refl, arith}
use Rattle.std.specs.List.{flat_map}
use Rattle.half_hash.specs.Half.{sha512_half}
use Rattle.ledger_spec.specs.Bytes.{branches}
use Rattle.cow_map.specs.Bodies.{CowTree}
use Rattle.cow_map.proofs.shared.Gathered.{stands_anywhere}
use Rattle.cow_map.proofs.Putting.{changed_below}
use Rattle.cow_map.proofs.Shifting.{get_told, gathered_more}
use Rattle.cow_map.proofs.map.CowMap.gather.Goals as goal

-- the part's nodes stand behind those before with their links moved, and the link that is set leads to its branch there
pub loop-b-preserved : goal.loop-b-preserved
loop-b-preserved c = record {
  below = changed_below c.loop-b.nodes c.append_to.new.nodes _ c.loop-b.links c.in_ok-links.links c.loop-b.b c.in_ok-link.link
      c.in_ok-link.ensures.grows c.loop-b.invariant.below c.in_ok-link.ensures.below c.in_ok-links.ensures;
  gathered = gathered_more c.args.kind c.args.parts.items c.loop-b.nodes c.append_to.new.nodes c.loop-b.links c.in_ok-links.links
      c.loop-b.b c.in_ok-link.link c.index.result.now
      (get_told c.args.parts.items c.loop-b.b c.index.result.now (omega (arith, c.args.parts.ok.0)) c.index.ensures) c.loop-b-test.true
      c.known-in-loop-b.ensures c.known.ensures c.loop-b.invariant.below c.in_ok-link.ensures.grows c.in_ok-link.ensures.link
      c.in_ok-links.ensures c.loop-b.invariant.gathered;
}

pub returns-clause-stands : goal.returns-clause-stands
returns-clause-stands c kids parted half stored =
    let m : CowTree = record { kind = c.args.kind; nodes = c.top_over.new.nodes; top = c.in_ok-top.top } in
    stands_anywhere sha512_half half stored m (flat_map kids branches)
    (c.in_ok-top.ensures.stands (flat_map kids branches) kids (refl, λ b low. c.loop-b.invariant.gathered kids parted b (omega arith)))
