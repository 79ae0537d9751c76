use Rattle.std.proofs.Common.{◌≡◌, List, length, subst, arith}
use Rattle.ledger_spec.specs.Tree.{Entry}
use Rattle.cow_map.specs.Trees.{StandsFor}
use Rattle.cow_build.proofs.Joined.{maps_long, kids_of, kids_whole, are_parts}
use Rattle.cow_build.proofs.items.build.Goals as goal

pub gather-requires : goal.gather-requires
gather-requires g c =
    let long = maps_long c.in_ok-maps.maps.items c.in_ok-parts.parts.items c.in_ok-maps.ensures.stands in
    omega (arith, long, c.in_ok-parts.ensures.sixteen, c.in_ok-parts.parts.ok.0, c.in_ok-maps.maps.ok.0)

-- the parts' maps are gathered by first nibbles, and the parts one behind the other are all the sorted items
pub returns-clause-stands : goal.returns-clause-stands
returns-clause-stands g c =
    let sorted = c.order.new.items.items in
    let parts = c.in_ok-parts.parts.items in
    let sixteen : length parts ≡ 16 = omega (arith, c.in_ok-parts.ensures.sixteen, c.in_ok-parts.parts.ok.0) in
    let each = are_parts c.args.kind sorted parts c.in_ok-maps.maps.items c.in_ok-parts.ensures.cut c.in_ok-maps.ensures.kinds
    c.in_ok-maps.ensures.stands in
    record {
      sorted = sorted;
      permutation = c.in_ok-order.ensures.permutation;
      rising = c.in_ok-order.ensures.rising;
      stands = λ half stored.
          subst (λ (es : List Entry). StandsFor half stored c.in_ok-gather.field-0 es)
          (kids_whole sorted parts sixteen c.in_ok-parts.ensures.cut)
          (c.in_ok-gather.ensures.stands (kids_of parts) each half stored);
    }
