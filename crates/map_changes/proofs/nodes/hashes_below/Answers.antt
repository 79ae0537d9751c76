use Rattle.std.proofs.Common.{◌≡◌, ◌<◌, ℕ, length, length-set, map, Some, sym, ap, ◌∙◌, arith}
use Rattle.std.proofs.lemmas.List.{take_all, take_more_set}
use Rattle.std.specs.List.{slice_index_or}
use borrow.Author.Count.{below_more}
use Rattle.cow_map.specs.declared.link.Link.TheVariants.{Empty}
use Rattle.map_changes.specs.Tracking.{place_of, link_hash, IsKnown}
use Rattle.map_changes.proofs.Closing.{hashes_more}
use Rattle.map_changes.proofs.nodes.hashes_below.Goals as goal

-- the next link's hash is known where it leads to a place, and stands behind the others
pub loop-b-preserved : goal.loop-b-preserved
loop-b-preserved c =
    let b = c.loop-b.b in
    let h = c.in_ok-below.field-0 in
    let low : b < length c.args.links.now = omega arith in
    let there : b < length c.loop-b.below = omega (arith, c.loop-b.invariant.size) in
    record {
      size = length-set c.loop-b.below b h ∙ c.loop-b.invariant.size;
      hashes = λ half kind nodes are.
          hashes_more (link_hash half kind nodes) c.args.links.now b _ _ h low (c.loop-b.invariant.hashes half kind nodes are)
          (c.in_ok-below.ensures.hash half kind nodes are ∙ ap (link_hash half kind nodes) c.get.ensures)
          (take_more_set c.loop-b.below b h there);
      known = below_more (λ b. (i : ℕ) → place_of (slice_index_or c.args.links.now b Empty) ≡ Some i → IsKnown c.args.hashes.now i)
          b c.loop-b.invariant.known
          (λ i is. c.in_ok-below.ensures.known i (ap place_of c.get.ensures ∙ is));
    }

-- all sixteen are there
pub returns-clause-hashes : goal.returns-clause-hashes
returns-clause-hashes c half kind nodes are =
    let end : c.loop-b.b ≡ 16 = omega arith in
    sym (take_all c.loop-b.b c.loop-b.below (omega (arith, c.loop-b.invariant.size)))
    ∙ c.loop-b.invariant.hashes half kind nodes are
    ∙ ap (map (link_hash half kind nodes)) (take_all c.loop-b.b c.args.links.now (omega (arith, end)))
