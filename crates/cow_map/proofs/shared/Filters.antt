-- The entries whose keys lie below a branch, as a part of those below its node. For proofs of other crates.
use Rattle.std.proofs.Common.{◌≡◌, ℕ, suc, ◌+◌, ◌-◌, ◌<◌, ◌≤◌, Bool, true, false, cond, List, [], ◌∷◌, ◌++◌, length}
use Rattle.std.proofs.Common.{Some, refl, sym, ap, ◌∙◌, arith, IsTrue, nat_eq}
use Rattle.std.proofs.Common.{filter}
use Rattle.std.specs.List.{flat_map, range_with_len, AllByRecursion, starts_with}
use Rattle.std.proofs.lemmas.Bool.{and_parts, eqb-true}
use Rattle.nib_path.specs.Paths.{nibbles, lies_under}
use Rattle.ledger_spec.specs.declared.Kind.{Kind}
use Rattle.ledger_spec.specs.Bytes.{Half, branches}
use Rattle.ledger_spec.specs.Tree.{Entry, part, is_alone, form_of_part}
use Rattle.cow_map.specs.Trees.{fewest}
use Rattle.tree_laws.proofs.shared.Subtrees.{inner_above, form_fork}
use Rattle.cow_map.proofs.Branches.{AllUnder, flat_split, all_range, under_front}

-- a key lies below one branch alone
one_branch : (ns path : List ℕ) (b c : ℕ) → starts_with nat_eq ns (path ++ b ∷ []) ≡ true → starts_with nat_eq ns (path ++ c ∷ []) ≡ true
    → b ≡ c
one_branch [] [] b c h g = cc
one_branch [] (p ∷ path) b c h g = cc
one_branch (n ∷ ns) [] b c h g =
    let first = eqb-true b n (and_parts (nat_eq b n) true h).0 in
    let second = eqb-true c n (and_parts (nat_eq c n) true g).0 in
    first ∙ sym second
one_branch (n ∷ ns) (p ∷ path) b c h g =
    one_branch ns path b c (and_parts (nat_eq p n) (starts_with nat_eq ns (path ++ b ∷ [])) h).1
    (and_parts (nat_eq p n) (starts_with nat_eq ns (path ++ c ∷ [])) g).1

-- filters of entries
module _ {X : Type 0} where
  filter_both : (p q : X → Bool) → ((x : X) → q x ≡ true → p x ≡ true) → (xs : List X) → filter q (filter p xs) ≡ filter q xs
  filter_both p q f [] = refl
  filter_both p q f (x ∷ xs) = by (q x) (p x) refl refl (filter_both p q f xs)
    where
      by : (a b : Bool) → q x ≡ a → p x ≡ b → filter q (filter p xs) ≡ filter q xs → filter q (filter p (x ∷ xs)) ≡ filter q (x ∷ xs)
      by true true e g rest = ap (λ t. filter q (cond t (x ∷ filter p xs) (filter p xs))) g ∙ ap (λ ys. cond (q x) (x ∷ ys) ys) rest
      by true false e g rest = let wrong : true ≡ false = sym (f x e) ∙ g in cc
      by false true e g rest = ap (λ t. filter q (cond t (x ∷ filter p xs) (filter p xs))) g ∙ ap (λ ys. cond (q x) (x ∷ ys) ys) rest
      by false false e g rest = ap (λ t. filter q (cond t (x ∷ filter p xs) (filter p xs))) g ∙ rest
          ∙ sym (ap (λ t. cond t (x ∷ filter q xs) (filter q xs)) e)

  filter_append : (q : X → Bool) (xs ys : List X) → filter q (xs ++ ys) ≡ filter q xs ++ filter q ys
  filter_append q [] ys = refl
  filter_append q (x ∷ xs) ys = by (q x) refl (filter_append q xs ys)
    where
      by : (a : Bool) → q x ≡ a → filter q (xs ++ ys) ≡ filter q xs ++ filter q ys
          → filter q (x ∷ xs ++ ys) ≡ filter q (x ∷ xs) ++ filter q ys
      by true e rest = ap (λ t. cond t (x ∷ filter q (xs ++ ys)) (filter q (xs ++ ys))) e ∙ ap (λ zs. x ∷ zs) rest
          ∙ sym (ap (λ t. cond t (x ∷ filter q xs) (filter q xs) ++ filter q ys) e)
      by false e rest = ap (λ t. cond t (x ∷ filter q (xs ++ ys)) (filter q (xs ++ ys))) e ∙ rest
          ∙ sym (ap (λ t. cond t (x ∷ filter q xs) (filter q xs) ++ filter q ys) e)

  filter_all : (q : X → Bool) (xs : List X) → AllByRecursion (λ x. q x ≡ true) xs → filter q xs ≡ xs
  filter_all q [] h = refl
  filter_all q (x ∷ xs) h = ap (λ t. cond t (x ∷ filter q xs) (filter q xs)) h.0 ∙ ap (λ zs. x ∷ zs) (filter_all q xs h.1)

  filter_none : (q : X → Bool) (xs : List X) → AllByRecursion (λ x. q x ≡ true → ⊥) xs → filter q xs ≡ []
  filter_none q [] h = refl
  filter_none q (x ∷ xs) h = by (q x) refl (filter_none q xs h.1)
    where
      by : (a : Bool) → q x ≡ a → filter q xs ≡ [] → filter q (x ∷ xs) ≡ []
      by true e rest = absurd (h.0 e)
      by false e rest = ap (λ t. cond t (x ∷ filter q xs) (filter q xs)) e ∙ rest

  filter_flat : (q : X → Bool) (kids : ℕ → List X) (cs : List ℕ) → AllByRecursion (λ c. filter q (kids c) ≡ []) cs
      → filter q (flat_map kids cs) ≡ []
  filter_flat q kids [] h = refl
  filter_flat q kids (c ∷ cs) h = filter_append q (kids c) (flat_map kids cs) ∙ (λ i. h.0 i ++ filter_flat q kids cs h.1 i)

all_map : {X : Type 0} (P Q : X → Type 0) (xs : List X) → ((x : X) → P x → Q x) → AllByRecursion P xs → AllByRecursion Q xs
all_map P Q [] f h = tt
all_map P Q (x ∷ xs) f h = (f x h.0, all_map P Q xs f h.1)

append_none : {X : Type 0} (xs : List X) → xs ++ [] ≡ xs
append_none [] = refl
append_none (x ∷ xs) = ap (λ ys. x ∷ ys) (append_none xs)

-- the part below a branch is what the branch holds
pub part_kid : (all : List Entry) (path : List ℕ) (kids : ℕ → List Entry) (b : ℕ) → b < 16 → part all path ≡ flat_map kids branches
    → ((c : ℕ) → c < 16 → AllUnder (path ++ c ∷ []) (kids c))
    → part all (path ++ b ∷ []) ≡ kids b
part_kid all path kids b low whole under =
    let q : Entry → Bool = λ e. lies_under (path ++ b ∷ []) e.0 in
    let outside : (c : ℕ) → c < 16 → (c ≡ b → ⊥) → filter q (kids c) ≡ [] =
    λ c in_16 apart. filter_none q (kids c)
    (all_map (λ (e : Entry). IsTrue (lies_under (path ++ c ∷ []) e.0)) (λ (e : Entry). q e ≡ true → ⊥) (kids c)
    (λ e at here. apart (one_branch (nibbles e.0) path c b at here)) (under c in_16)) in
    let front : filter q (flat_map kids (range_with_len 0 b)) ≡ [] =
    filter_flat q kids (range_with_len 0 b)
    (all_range (λ c. filter q (kids c) ≡ []) b 0 (λ c at below. outside c (omega arith) (omega arith))) in
    let back : filter q (flat_map kids (range_with_len (b + 1) (15 - b))) ≡ [] =
    filter_flat q kids (range_with_len (b + 1) (15 - b))
    (all_range (λ c. filter q (kids c) ≡ []) (15 - b) (b + 1) (λ c at below. outside c (omega arith) (omega arith))) in
    sym (filter_both (λ (e : Entry). lies_under path e.0) q (λ e at. under_front (nibbles e.0) path b at) all)
    ∙ ap (filter q) (whole ∙ flat_split kids b low)
    ∙ filter_append q (flat_map kids (range_with_len 0 b) ++ kids b) (flat_map kids (range_with_len (b + 1) (15 - b)))
    ∙ ap (λ xs. xs ++ filter q (flat_map kids (range_with_len (b + 1) (15 - b))))
    (filter_append q (flat_map kids (range_with_len 0 b)) (kids b))
    ∙ (λ i. (front i ++ filter_all q (kids b) (under b low) i) ++ back i)
    ∙ append_none (kids b)

-- the form at a place, by what lies there
-- enough entries aren't one alone
pub crowded : (path : List ℕ) (e : Entry) (others : List Entry) → fewest path ≤ length (e ∷ others) → is_alone path others ≡ false
crowded [] e others enough = refl
crowded (n ∷ path) e [] enough = absurd (omega arith)
crowded (n ∷ path) e (f ∷ others) enough = refl

pub part_fork : (half : Half) (kind : Kind) (all : List Entry) (left : ℕ) (path : List ℕ) (items : List Entry) → fewest path ≤ length items
    → form_of_part half kind all (suc left) path items ≡ Some (inner_above half kind all left path)
part_fork half kind all left [] [] enough = absurd (omega arith)
part_fork half kind all left (n ∷ path) [] enough = absurd (omega arith)
part_fork half kind all left path (e ∷ others) enough = form_fork half kind all left path e others (crowded path e others enough)

pub part_root : (items : List Entry) → part items [] ≡ items
part_root items = filter_all (λ (e : Entry). lies_under [] e.0) items (everywhere items)
  where
    everywhere : (es : List Entry) → AllByRecursion (λ (e : Entry). lies_under [] e.0 ≡ true) es
    everywhere [] = tt
    everywhere (e ∷ es) = (refl, everywhere es)
