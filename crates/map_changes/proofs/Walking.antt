-- The changes of a map, told of its branches one by one: what a walk of two maps at once lists.
use Rattle.std.specs.Prelude.{◌≡◌, ℕ, zero, suc, ◌+◌, ◌-◌, ◌<◌, ◌≤◌, Bool, true, false, if◌then◌else◌}
use Rattle.std.specs.Prelude.{Option, None, Some, length, List, [], ◌∷◌, ◌++◌, map, refl}
use Rattle.std.proofs.Common.{sym, ap, ◌∙◌, arith, append_assoc, append-nil, length-append}
use Rattle.std.specs.List.{flat_map, range_with_len}
use Rattle.ledger_spec.specs.declared.Kind.{Kind}
use Rattle.ledger_spec.specs.Bytes.{Half, branches}
use Rattle.ledger_spec.specs.Forms.{Held}
use Rattle.ledger_spec.specs.Tree.{Entry, part, is_alone}
use Rattle.map_changes.specs.Placed.{Placed, nodes_of_part, changed}
use Rattle.map_changes.specs.Walks.{Under, AllUnder, placed_at, old_kid, itself, nodes_within, shared_nodes}
use Rattle.map_changes.specs.declared.tracked.PlacedNode.{PlacedNode}
use Rattle.std.proofs.lemmas.List.{map-append}
use Rattle.std.proofs.lemmas.List.Concat.{flat_map-append}
use Rattle.map_changes.proofs.shared.Changed.{changed_all}
use Rattle.map_changes.proofs.Changed.{AreKids, changed_inner}
use Rattle.map_changes.proofs.shared.Walking.{range_more}

-- nodes below a branch stand under the path
lift : (path : List ℕ) (b : ℕ) (xs : List Placed) → AllUnder (path ++ b ∷ []) xs → AllUnder path xs
lift path b [] all = tt
lift path b (x ∷ xs) all = (record { rest = b ∷ all.0.rest; at = all.0.at ∙ append_assoc path (b ∷ []) all.0.rest }, lift path b xs all.1)

both_under : (path : List ℕ) (xs ys : List Placed) → AllUnder path xs → AllUnder path ys → AllUnder path (xs ++ ys)
both_under path [] ys a b = b
both_under path (x ∷ xs) ys a b = (a.0, both_under path xs ys a.1 b)

kids_under : (path : List ℕ) (kids : ℕ → List Placed) (bs : List ℕ) → AreKids path kids → AllUnder path (flat_map kids bs)
kids_under path kids [] are = tt
kids_under path kids (b ∷ bs) are = both_under path (kids b) (flat_map kids bs) (lift path b (kids b) (are b))
    (kids_under path kids bs are)

here_under : (path : List ℕ) (n : Held) → Under path (record { path = path; node = n })
here_under path n = record { rest = []; at = sym (append-nil path) }

inner_under : (path : List ℕ) (one now : Placed) (kids : List Placed) (b : Bool) → Under path one → Under path now → AllUnder path kids
    → AllUnder path (if b then one ∷ [] else now ∷ kids)
inner_under path one now kids true a b all = (a, tt)
inner_under path one now kids false a b all = (b, all)

-- the nodes of a part stand at its path and below
pub under_part : (half : Half) (kind : Kind) (all : List Entry) (left : ℕ) (path : List ℕ) (entries : List Entry)
    → AllUnder path (nodes_of_part half kind all left path entries)
unfolding nodes_of_part
under_part half kind all left path [] = tt
under_part half kind all zero path (e ∷ others) = (here_under path _, tt)
under_part half kind all (suc left) path (e ∷ others) =
    inner_under path _ _ _ (is_alone path others) (here_under path _) (here_under path _)
    (kids_under path (λ b. nodes_of_part half kind all left (path ++ b ∷ []) (part all (path ++ b ∷ []))) branches
    (λ b. under_part half kind all left (path ++ b ∷ []) (part all (path ++ b ∷ []))))

same_flat : (f g : ℕ → List Placed) (bs : List ℕ) → ((b : ℕ) → f b ≡ g b) → flat_map f bs ≡ flat_map g bs
same_flat f g [] e = refl
same_flat f g (b ∷ bs) e = λ i. e b i ++ same_flat f g bs e i

-- what shared nodes say of themselves
pub record Says (held : ℕ → Held) (kid : ℕ → ℕ → Option ℕ) (nodes : Option ℕ → List ℕ → List Placed) : Type 0 where
  pub none : (path : List ℕ) → nodes None path ≡ []
  pub some : (i : ℕ) (path : List ℕ) → length path ≤ 64 → nodes (Some i) path
      ≡ placed_at path (held i) ∷ flat_map (λ b. nodes (kid i b) (path ++ b ∷ [])) branches
  pub under : (link : Option ℕ) (path : List ℕ) → AllUnder path (nodes link path)
  pub bottom : (link : Option ℕ) (path : List ℕ) → 64 < length path → nodes link path ≡ []

-- what a walk lists for a branch
abbrev pub branch_changes : (ℕ → ℕ → Option ℕ) → (Option ℕ → List ℕ → List Placed) → List ℕ → ℕ → Option ℕ → ℕ → List Placed
branch_changes kid nodes path i old b = changed (nodes (old_kid kid old b) (path ++ b ∷ [])) (nodes (kid i b) (path ++ b ∷ []))

-- the changes at a node are itself, where it has changed, and those of its branches
pub walk_is : (held : ℕ → Held) (kid : ℕ → ℕ → Option ℕ) (nodes : Option ℕ → List ℕ → List Placed) (path : List ℕ) (i : ℕ)
    (old : Option ℕ) → Says held kid nodes → length path ≤ 64
    → changed (nodes old path) (nodes (Some i) path) ≡ itself held path i old ++ flat_map (branch_changes kid nodes path i old) branches
walk_is held kid nodes path i None s short =
    let kids : ℕ → List Placed = λ b. nodes (kid i b) (path ++ b ∷ []) in
    let each : (b : ℕ) → kids b ≡ branch_changes kid nodes path i None b =
    λ b. sym (changed_all (kids b)) ∙ ap (λ (x : List Placed). changed x (kids b)) (sym (s.none (path ++ b ∷ []))) in
    ap (λ (x : List Placed). changed x (nodes (Some i) path)) (s.none path) ∙ changed_all (nodes (Some i) path) ∙ s.some i path short
    ∙ ap (λ (x : List Placed). placed_at path (held i) ∷ x) (same_flat kids (branch_changes kid nodes path i None) branches each)
walk_is held kid nodes path i (Some j) s short =
    let kids : ℕ → List Placed = λ b. nodes (kid i b) (path ++ b ∷ []) in
    let before : ℕ → List Placed = λ b. nodes (kid j b) (path ++ b ∷ []) in
    (λ k. changed (s.some j path short k) (s.some i path short k))
    ∙ changed_inner path (placed_at path (held j)) (placed_at path (held i)) before kids (λ b. s.under (kid j b) (path ++ b ∷ []))
    (λ b. s.under (kid i b) (path ++ b ∷ [])) refl refl

-- the nodes of one branch more
pub branch_more : (f : Placed → PlacedNode) (xs : ℕ → List Placed) (n : ℕ) (start now next : List PlacedNode)
    → now ≡ start ++ map f (flat_map xs (range_with_len 0 n)) → next ≡ now ++ map f (xs n)
    → next ≡ start ++ map f (flat_map xs (range_with_len 0 (n + 1)))
branch_more f xs n start now next e is =
    let last : flat_map xs (n ∷ []) ≡ xs n = append-nil (xs n) in
    let zero_n : 0 + n ≡ n = omega arith in
    let all : flat_map xs (range_with_len 0 n) ++ xs n ≡ flat_map xs (range_with_len 0 (n + 1)) =
    ap (λ (x : List Placed). flat_map xs (range_with_len 0 n) ++ x) (sym last ∙ ap (λ m. flat_map xs (m ∷ [])) (sym zero_n))
    ∙ sym (flat_map-append xs (range_with_len 0 n) ((0 + n) ∷ [])) ∙ ap (flat_map xs) (range_more 0 n) in
    is ∙ ap (λ (x : List PlacedNode). x ++ map f (xs n)) e ∙ append_assoc start (map f (flat_map xs (range_with_len 0 n))) (map f (xs n))
    ∙ ap (λ (x : List PlacedNode). start ++ x) (sym (map-append f (flat_map xs (range_with_len 0 n)) (xs n)) ∙ ap (map f) all)

-- a branch that has no nodes
pub branch_empty : (f : Placed → PlacedNode) (xs : ℕ → List Placed) (n : ℕ) (start now : List PlacedNode)
    → now ≡ start ++ map f (flat_map xs (range_with_len 0 n)) → xs n ≡ []
    → now ≡ start ++ map f (flat_map xs (range_with_len 0 (n + 1)))
branch_empty f xs n start now e none = branch_more f xs n start now now e
    (sym (append-nil now) ∙ ap (λ (x : List Placed). now ++ map f x) (sym none))

-- all that was listed
pub listed_all : (f : Placed → PlacedNode) (own all flat : List Placed) (start mid end : List PlacedNode) → all ≡ own ++ flat
    → mid ≡ start ++ map f own → end ≡ mid ++ map f flat → end ≡ start ++ map f all
listed_all f own all flat start mid end e m h =
    h ∙ ap (λ (x : List PlacedNode). x ++ map f flat) m ∙ append_assoc start (map f own) (map f flat)
    ∙ ap (λ (x : List PlacedNode). start ++ x) (sym (map-append f own flat) ∙ ap (map f) (sym e))

within_under : (levels : ℕ) (held : ℕ → Held) (kid : ℕ → ℕ → Option ℕ) (link : Option ℕ) (path : List ℕ)
    → AllUnder path (nodes_within levels held kid link path)
unfolding nodes_within
within_under zero held kid link path = tt
within_under (suc levels) held kid None path = tt
within_under (suc levels) held kid (Some i) path = (
  here_under path (held i),
  kids_under path (λ b. nodes_within levels held kid (kid i b) (path ++ b ∷ [])) branches
      (λ b. within_under levels held kid (kid i b) (path ++ b ∷ [])),
)

pub within_none : (levels : ℕ) (held : ℕ → Held) (kid : ℕ → ℕ → Option ℕ) (path : List ℕ) → nodes_within levels held kid None path ≡ []
unfolding nodes_within
within_none zero held kid path = refl
within_none (suc levels) held kid path = refl

within_some : (levels : ℕ) (held : ℕ → Held) (kid : ℕ → ℕ → Option ℕ) (i : ℕ) (path : List ℕ)
    → nodes_within (suc levels) held kid (Some i) path ≡ placed_at path (held i) ∷ flat_map
    (λ b. nodes_within levels held kid (kid i b) (path ++ b ∷ [])) branches
unfolding nodes_within
within_some levels held kid i path = refl

within_no_levels : (held : ℕ → Held) (kid : ℕ → ℕ → Option ℕ) (link : Option ℕ) (path : List ℕ) → nodes_within 0 held kid link path ≡ []
unfolding nodes_within
within_no_levels held kid link path = refl

-- what shared nodes say of themselves, whatever they are
pub shared_say : (held : ℕ → Held) (kid : ℕ → ℕ → Option ℕ) → Says held kid (shared_nodes held kid)
shared_say held kid = record {
  none = λ path. within_none (65 - length path) held kid path;
  some = λ i path short.
      let left : 65 - length path ≡ suc (64 - length path) = omega arith in
      let below : (b : ℕ) → 64 - length path ≡ 65 - length (path ++ b ∷ []) = λ b. omega (arith, length-append path (b ∷ [])) in
      ap (λ n. nodes_within n held kid (Some i) path) left ∙ within_some (64 - length path) held kid i path
      ∙ ap (λ (x : List Placed). placed_at path (held i) ∷ x)
      (same_flat (λ b. nodes_within (64 - length path) held kid (kid i b) (path ++ b ∷ []))
      (λ b. shared_nodes held kid (kid i b) (path ++ b ∷ [])) branches
      (λ b. ap (λ n. nodes_within n held kid (kid i b) (path ++ b ∷ [])) (below b)));
  under = λ link path. within_under (65 - length path) held kid link path;
  bottom = λ link path deep.
      let none : 65 - length path ≡ 0 = omega arith in
      ap (λ n. nodes_within n held kid link path) none ∙ within_no_levels held kid link path;
}
