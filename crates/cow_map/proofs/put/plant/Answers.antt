use Rattle.std.proofs.Common.{◌≡◌, ℕ, length, List, [], ◌∷◌, ◌<◌, ◌≤◌, sym, subst, arith, ◌++◌, IsTrue}
use Rattle.nib_path.specs.Paths.{lies_under}
use Rattle.cow_map.specs.Trees.{fewest}
use Rattle.cow_map.proofs.shared.Planting.{leaf_done, more}
use Rattle.cow_map.proofs.Results.{ok_map}
use Rattle.cow_map.proofs.put.plant.Goals as goal

above_zero : (n m : ℕ) → m ≡ n → 0 < m → 0 < n
above_zero n m e h = omega arith

root_fewest : (path : List ℕ) (n : ℕ) → n ≡ length path → n ≤ 0 → fewest path ≤ 1
root_fewest [] n e h = omega arith
root_fewest (p ∷ path) n e h = absurd (omega arith)

pub returns-then-depth-gt0-clause-stands : goal.returns-then-depth-gt0-clause-stands
returns-then-depth-gt0-clause-stands c =
    ok_map c.push_leaf.result _ _ c.push_leaf.ensures.ok (λ link ok half stored kind.
    leaf_done half stored kind c.args.arena.now c.push_leaf.new.self _ c.args.id.now link c.args.item.key c.args.item.value ok.0 ok.1
    c.args.item.valid (above_zero _ c.depth.result c.depth.ensures c.if-depth-gt0.true) c.requires)

-- at the root an inner node needs one item only, and the leaf below it on the way to the key has that
pub returns-clause-stands : goal.returns-clause-stands
returns-clause-stands c =
    ok_map c.above.result _ _ c.above.ensures.stands (λ link done half stored kind.
    done half stored kind ((c.args.item.key, c.args.item.value) ∷ [])
    (root_fewest c.args.id.now c.depth.result c.depth.ensures c.if-depth-gt0.false)
    (leaf_done half stored kind c.args.arena.now c.push_leaf-2.new.self _ (c.args.id.now ++ c.toward-b.result ∷ []) c.in_ok-leaf.leaf
    c.args.item.key c.args.item.value c.in_ok-leaf.ensures.ok.0 c.in_ok-leaf.ensures.ok.1 c.args.item.valid
    (more c.args.id.now c.toward-b.result)
    (subst (λ (k : List ℕ). IsTrue (lies_under (c.args.id.now ++ c.toward-b.result ∷ []) k)) c.key.ensures
    (c.toward-b.ensures.under (subst (λ (k : List ℕ). IsTrue (lies_under c.args.id.now k)) (sym c.key.ensures) c.requires)))))
