-- Where nothing was shown before, every node has changed, and the empty map has no nodes. For proofs of other crates.
use Rattle.std.specs.Prelude.{◌≡◌}
use Rattle.std.specs.Prelude.{ℕ, zero, suc, List, [], ◌∷◌, refl}
use Rattle.std.proofs.Common.{ap}
use Rattle.ledger_spec.specs.declared.Kind.{Kind}
use Rattle.ledger_spec.specs.Bytes.{Half}
use Rattle.ledger_spec.specs.Tree.{Entry}
use Rattle.map_changes.specs.Placed.{Placed, changed, nodes_of_part, nodes_of}

-- where nothing was shown before, every node has changed
pub changed_all : (nodes : List Placed) → changed [] nodes ≡ nodes
changed_all [] = refl
changed_all (p ∷ nodes) = ap (λ (x : List Placed). p ∷ x) (changed_all nodes)

none_of_part : (half : Half) (kind : Kind) (all : List Entry) (left : ℕ) (path : List ℕ) → nodes_of_part half kind all left path [] ≡ []
unfolding nodes_of_part
none_of_part half kind all zero path = refl
none_of_part half kind all (suc left) path = refl

-- the empty map has no nodes
pub no_nodes : (half : Half) (kind : Kind) → nodes_of half kind [] ≡ []
no_nodes half kind = none_of_part half kind [] 64 []
