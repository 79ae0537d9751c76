use Rattle.std.proofs.Common.{◌≡◌, ◌<◌, ◌≤◌, ℕ, length, sym, ap, ◌∙◌, subst, ◌==◌, false, arith, Some, slice_index_or}
use Rattle.std.specs.List.{slice_get}
use Rattle.std.proofs.lemmas.Bool.Decides.{nat_tests}
use Rattle.cow_map.specs.declared.link.Link.TheVariants.{Empty}
use Rattle.cow_map.specs.Bodies.{inner}
use Rattle.cow_map.specs.Shown.{body_of}
use Rattle.cow_map.specs.Trees.{found_body}
use Rattle.cow_map.specs.Looks.{Looks, IsPlaced}
use Rattle.cow_map.specs.declared.look.Seen.TheVariants.{Inner}
use Rattle.cow_map.proofs.Looking.{placed_inner}
use Rattle.cow_map.proofs.shared.Leading.{weaker}
use Rattle.cow_map.proofs.look.own.Goals as goal

other : (n m : ℕ) → m ≡ n → (m ≡ 64 → ⊥) → (n == 64) ≡ false
other n m e h = grind (arith, nat_tests)

below_le : {n m : ℕ} → n < m → n ≤ m
below_le h = omega arith

pub returns-in-Leaf-clause-seen : goal.returns-in-Leaf-clause-seen
returns-in-Leaf-clause-seen c =
    subst (λ o. Looks c.args.id.now (found_body c.args.id.now o) c.own_leaf.result)
    (sym (c.get.ensures ∙ ap (λ x. Some (body_of x)) c.in-Leaf.is)) c.own_leaf.ensures.seen

pub returns-in-Leaf-clause-placed : goal.returns-in-Leaf-clause-placed
returns-in-Leaf-clause-placed c = c.own_leaf.ensures.placed (length c.args.arena.now)

-- the place isn't at the bottom, and an inner node of the list has sixteen links, all to lower places
pub returns-in_ok-copy-in-Inner-clause-placed : goal.returns-in_ok-copy-in-Inner-clause-placed
returns-in_ok-copy-in-Inner-clause-placed c =
    let at : slice_get c.args.arena.now c.args.at ≡ Some (inner c.in-Inner.links) = c.get.ensures
    ∙ ap (λ x. Some (body_of x)) c.in-Inner.is in
    let body = c.known-2.ensures c.args.at (inner c.in-Inner.links) at in
    subst (λ ls. IsPlaced (length c.args.arena.now) c.args.id.now (Inner ls)) (sym c.in_ok-copy-in-Inner.ensures)
    (placed_inner (length c.args.arena.now) c.args.id.now c.in-Inner.links c.known.ensures.short
    (other _ c.depth.result c.depth.ensures c.if-depth-eq64.false) body.0
    (λ b. weaker c.args.at (length c.args.arena.now) (slice_index_or c.in-Inner.links b Empty) (below_le c.requires) (body.1 b)))
