-- Shared nodes that stand for a map's entries are the map's nodes.
use Rattle.std.specs.Prelude.{◌≡◌, ℕ, zero, suc, ◌+◌, ◌<◌, Bool, true, false, if◌then◌else◌, List, [], ◌∷◌, ◌++◌}
use Rattle.std.specs.Prelude.{Option, Some, refl}
use Rattle.std.proofs.Common.{ap, ◌∙◌, arith}
use Rattle.std.specs.List.{flat_map, range_with_len}
use Rattle.ledger_spec.specs.declared.Kind.{Kind}
use Rattle.ledger_spec.specs.Bytes.{Half, Items, branches}
use Rattle.ledger_spec.specs.Forms.{Held, leaf}
use Rattle.ledger_spec.specs.Tree.{Entry, part, is_alone}
use Rattle.map_changes.specs.Placed.{Placed, nodes_of_part, nodes_of}
use Rattle.map_changes.specs.Walks.{placed_at, nodes_within, shared_nodes}
use Rattle.map_changes.specs.Trees.{IsLeafNode, IsInnerNode, IsNode, hashes_below, StandsFor}
use Rattle.map_changes.proofs.Walking.{within_none}

same_from : (f g : ℕ → List Placed) (a n : ℕ) → ((b : ℕ) → b < a + n → f b ≡ g b)
    → flat_map f (range_with_len a n) ≡ flat_map g (range_with_len a n)
same_from f g a zero e = refl
same_from f g a (suc n) e =
    let head : f a ≡ g a = e a (omega arith) in
    let rest : flat_map f (range_with_len (a + 1) n) ≡ flat_map g (range_with_len (a + 1) n) = same_from f g (a + 1) n
    (λ b lt. e b (omega arith)) in
    λ i. head i ++ rest i

leaf_nodes : (levels : ℕ) (held : ℕ → Held) (kid : ℕ → ℕ → Option ℕ) (kind : Kind) (path : List ℕ) (i : ℕ) (e : Entry)
    → IsLeafNode held kid kind i e
    → nodes_within (suc levels) held kid (Some i) path ≡ placed_at path (leaf kind e.0 e.1) ∷ []
unfolding nodes_within
leaf_nodes levels held kid kind path i e s =
    λ k. placed_at path (s.is_leaf k)
    ∷ same_from (λ b. nodes_within levels held kid (kid i b) (path ++ b ∷ [])) (λ b. []) 0 16
    (λ b lt. ap (λ l. nodes_within levels held kid l (path ++ b ∷ [])) (s.no_kids b (omega arith))
    ∙ within_none levels held kid (path ++ b ∷ [])) k

node_step : (half : Half) (kind : Kind) (all : List Entry) (held : ℕ → Held) (kid : ℕ → ℕ → Option ℕ) (left : ℕ) (path : List ℕ) (i : ℕ)
    (e : Entry) (alone : Bool)
    → ((b : ℕ) (link : Option ℕ) → StandsFor half kind all held kid left (path ++ b ∷ []) link (part all (path ++ b ∷ []))
    → nodes_within (suc left) held kid link (path ++ b ∷ []) ≡ nodes_of_part half kind all left (path ++ b ∷ [])
    (part all (path ++ b ∷ [])))
    → IsNode alone (IsLeafNode held kid kind i e)
    (IsInnerNode (λ b below. StandsFor half kind all held kid left (path ++ b ∷ []) below (part all (path ++ b ∷ []))) held kid i
    (hashes_below half kind all left path))
    → nodes_within (suc (suc left)) held kid (Some i) path
    ≡ (if alone then placed_at path (leaf kind e.0 e.1) ∷ []
    else placed_at path (hashes_below half kind all left path) ∷ flat_map
    (λ b. nodes_of_part half kind all left (path ++ b ∷ []) (part all (path ++ b ∷ []))) branches)
unfolding nodes_within
node_step half kind all held kid left path i e true more s = leaf_nodes (suc left) held kid kind path i e s
node_step half kind all held kid left path i e false more s =
    λ k. placed_at path (s.is_inner k)
    ∷ same_from (λ b. nodes_within (suc left) held kid (kid i b) (path ++ b ∷ []))
    (λ b. nodes_of_part half kind all left (path ++ b ∷ []) (part all (path ++ b ∷ []))) 0 16
    (λ b lt. more b (kid i b) (s.each b (omega arith))) k

-- what stands for the entries at a path has the map's nodes there
pub standing_nodes : (half : Half) (kind : Kind) (all : List Entry) (held : ℕ → Held) (kid : ℕ → ℕ → Option ℕ) (left : ℕ) (path : List ℕ)
    (link : Option ℕ) (entries : List Entry)
    → StandsFor half kind all held kid left path link entries
    → nodes_within (suc left) held kid link path ≡ nodes_of_part half kind all left path entries
unfolding nodes_of_part StandsFor
standing_nodes half kind all held kid left path link [] s = ap (λ l. nodes_within (suc left) held kid l path) s
    ∙ within_none (suc left) held kid path
standing_nodes half kind all held kid zero path link (e ∷ others) s =
    ap (λ l. nodes_within 1 held kid l path) s.1 ∙ leaf_nodes 0 held kid kind path s.0 e s.2
standing_nodes half kind all held kid (suc left) path link (e ∷ others) s =
    ap (λ l. nodes_within (suc (suc left)) held kid l path) s.1
    ∙ node_step half kind all held kid left path s.0 e (is_alone path others)
    (λ b below t. standing_nodes half kind all held kid left (path ++ b ∷ []) below (part all (path ++ b ∷ [])) t) s.2

-- a link that stands for a map has the map's nodes
pub shared_map : (half : Half) (kind : Kind) (items : Items) (held : ℕ → Held) (kid : ℕ → ℕ → Option ℕ) (link : Option ℕ)
    → StandsFor half kind items held kid 64 [] link (part items []) → shared_nodes held kid link [] ≡ nodes_of half kind items
shared_map half kind items held kid link s = standing_nodes half kind items held kid 64 [] link (part items []) s
