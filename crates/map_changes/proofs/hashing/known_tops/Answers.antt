use Rattle.std.proofs.Common.{◌≡◌, ℕ, Some, arith, subst}
use Rattle.std.specs.List.{All}
use Rattle.std.proofs.lemmas.List.{take_all}
use Rattle.std.proofs.lemmas.List.Elements.{All-more}
use Rattle.cow_map.specs.declared.link.Link.{Link}
use Rattle.map_changes.specs.Tracking.{place_of, IsKnown}
use Rattle.map_changes.proofs.hashing.known_tops.Goals as goal

-- one top more
pub loop-top-preserved : goal.loop-top-preserved
loop-top-preserved c =
    let P : Link → Type 0 = λ top. (i : ℕ) → place_of top ≡ Some i → IsKnown c.args.hashes.now i in
    All-more P c.args.tops.now c.loop-top.top-index _ c.loop-top-test.true c.loop-top.invariant
    (subst P c.top-item.is c.in_ok-known_top.ensures)

-- all of them
pub returns : goal.returns
returns c =
    let P : Link → Type 0 = λ top. (i : ℕ) → place_of top ≡ Some i → IsKnown c.args.hashes.now i in
    subst (λ ls. All P ls) (take_all c.loop-top.top-index c.args.tops.now (omega (arith, c.loop-top-test.false))) c.loop-top.invariant
