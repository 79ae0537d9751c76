-- Sixteen branches of a place: what lies below one of them, and how many have something.
use Rattle.std.proofs.Common.{◌≡◌, ◌⊎◌, inl, inr, ⊎_elim, ◌≤◌, ◌<◌, ◌+◌, ◌*◌, ◌==◌, not, ℕ, zero, suc, Bool, true, false}
use Rattle.std.proofs.Common.{if◌then◌else◌, List, [], ◌∷◌, ◌++◌, length, get_or, map, cond, IsTrue, Option, None}
use Rattle.std.proofs.Common.{Some, refl, sym, ap, ◌∙◌, arith, length-append, filter_map, flat_map}
use Rattle.std.proofs.lemmas.Bool.{eqb-true, and_parts}
use Rattle.std.proofs.lemmas.Bool.{cases_eq}
use Rattle.std.proofs.lemmas.List.{append-nil, same_lists, length-map}
use Rattle.std.proofs.lemmas.List.Elements.{filter-append, filter_map-append}
use Rattle.std.proofs.lemmas.List.FromFn.{length-range_with_len, get_or-map-range_with_len}
use Rattle.std.specs.List.{list_any, list_all, slice_index_or, filter, range_with_len, AllByRecursion}
use Rattle.nib_path.specs.Paths.{lies_under}
use Rattle.ledger_spec.specs.declared.Kind.{Kind}
use Rattle.ledger_spec.specs.declared.ShapeFault.{ShapeFault}
use Rattle.ledger_spec.specs.Bytes.{Bytes, Hash, Half, Items, zero_hash, is_zero, is_nonzero, branches}
use Rattle.ledger_spec.specs.Forms.{leaf, inner_prefix, leaf_form}
use Rattle.ledger_spec.specs.Rules.{fault_of, is_lone}
use Rattle.ledger_spec.specs.Tree.{Entry, form_of_part}
use Rattle.tree_laws.proofs.shared.Trees.{kid_hash}
use Rattle.tree_laws.proofs.shared.Parts.{filter_all, filter_none, under_other}
use Rattle.tree_laws.proofs.shared.Orders.{all_weaker}

pub found_join : {A B F : Type 0} (find : B → Option F) (f : A → List B) (xs : List A)
    → filter_map find (flat_map f xs) ≡ flat_map (λ x. filter_map find (f x)) xs
found_join find f [] = refl
found_join find f (x ∷ xs) = filter_map-append find (f x) (flat_map f xs) ∙ ap (λ l. filter_map find (f x) ++ l) (found_join find f xs)

-- a branch's hash has 32 bytes, also past the end
pub size_at : (hashes : List Hash) (b : ℕ) → IsTrue (list_all (λ h. length h == 32) hashes)
    → length (slice_index_or hashes b zero_hash) ≡ 32
size_at [] b sizes = refl
size_at (h ∷ hashes) zero sizes = eqb-true (length h) 32 (and_parts (length h == 32) (list_all (λ h. length h == 32) hashes) sizes).0
size_at (h ∷ hashes) (suc b) sizes = size_at hashes b (and_parts (length h == 32) (list_all (λ h. length h == 32) hashes) sizes).1

-- sixteen hashes are those at the branches
pub hashes_at_branches : (hashes : List Hash) → length hashes ≡ 16 → hashes ≡ map (λ b. slice_index_or hashes b zero_hash) branches
hashes_at_branches hashes count =
    same_lists hashes (map (λ b. slice_index_or hashes b zero_hash) branches)
    (count ∙ sym (length-map branches (λ b. slice_index_or hashes b zero_hash) ∙ length-range_with_len 0 16))
    (λ k d below.
    let same : get_or hashes k d ≡ get_or hashes k zero_hash = Rattle.std.proofs.lemmas.List.get_or_default hashes k d zero_hash below in
    same ∙ sym (get_or-map-range_with_len (λ b. slice_index_or hashes b zero_hash) 0 16 k k d (omega arith) (omega arith)))

-- the entries of the maps under the branches that lie under one of them
module _ (path : List ℕ) (b : ℕ) (g : ℕ → Items)
    (under : (c : ℕ) → AllByRecursion (λ (e : Entry). lies_under (path ++ c ∷ []) e.0 ≡ true) (g c)) where
  abbrev under_b : Entry → Bool
  under_b e = lies_under (path ++ b ∷ []) e.0

  others_skipped : (c : ℕ) → (c ≡ b → ⊥) → filter under_b (g c) ≡ []
  others_skipped c differ = filter_none under_b (g c)
      (all_weaker (λ (e : Entry). lies_under (path ++ c ∷ []) e.0 ≡ true) (λ e. under_b e ≡ false)
      (λ e u. under_other path c b e.0 differ u) (g c) (under c))

  skip_range : (a n : ℕ) → (b < a) ⊎ (a + n ≤ b) → filter under_b (flat_map g (range_with_len a n)) ≡ []
  skip_range a zero away = refl
  skip_range a (suc n) away =
      let differ : a ≡ b → ⊥ = λ e. ⊎_elim (λ l. omega arith) (λ l. omega arith) away in
      filter-append under_b (g a) (flat_map g (range_with_len (a + 1) n))
      ∙ ap (λ l. l ++ filter under_b (flat_map g (range_with_len (a + 1) n))) (others_skipped a differ)
      ∙ skip_range (a + 1) n (⊎_elim (λ l. inl (omega arith)) (λ l. inr (omega arith)) away)

  pick_range : (a n : ℕ) → a ≤ b → b < a + n → filter under_b (flat_map g (range_with_len a n)) ≡ g b
  pick_range a zero from upto = absurd (omega arith)
  pick_range a (suc n) from upto =
      filter-append under_b (g a) (flat_map g (range_with_len (a + 1) n))
      ∙ ⊎_elim
      (λ (same : a ≡ b).
      ap (λ l. filter under_b (g a) ++ l) (skip_range (a + 1) n (inl (omega arith))) ∙ append-nil (filter under_b (g a))
      ∙ ap (λ c. filter under_b (g c)) same ∙ filter_all under_b (g b) (under b))
      (λ (differ : a ≡ b → ⊥).
      ap (λ l. l ++ filter under_b (flat_map g (range_with_len (a + 1) n))) (others_skipped a differ)
      ∙ pick_range (a + 1) n (omega arith) (omega arith))
      (cases_eq a b)

  pub pick : (16 ≤ b → g b ≡ []) → filter under_b (flat_map g branches) ≡ g b
  pick past = ⊎_elim (λ (below : b < 16). pick_range 0 16 (omega arith) (omega arith))
      (λ (above : 16 ≤ b). skip_range 0 16 (inr (omega arith)) ∙ sym (past above)) (Rattle.std.proofs.lemmas.Bool.cases_lt b 16)

-- each branch that isn't empty has some entries
pub enough_below : (k : ℕ) (hash : ℕ → Hash) (g : ℕ → Items) → ((b : ℕ) → is_zero (hash b) ≡ false → k ≤ length (g b)) → (xs : List ℕ)
    → k * length (filter is_nonzero (map hash xs)) ≤ length (flat_map g xs)
enough_below k hash g each [] = omega arith
enough_below k hash g each (x ∷ xs) = by_test (is_zero (hash x)) refl (enough_below k hash g each xs)
  where
    by_test : (t : Bool) → is_zero (hash x) ≡ t → k * length (filter is_nonzero (map hash xs)) ≤ length (flat_map g xs)
        → k * length (cond (not t) (hash x ∷ filter is_nonzero (map hash xs)) (filter is_nonzero (map hash xs))) ≤ length
        (g x ++ flat_map g xs)
    by_test true is rest = omega (arith, length-append (g x) (flat_map g xs), rest)
    by_test false is rest =
        let more : k ≤ length (g x) = each x is in
        let times : k * suc (length (filter is_nonzero (map hash xs))) ≡ k + k * length (filter is_nonzero (map hash xs)) =
        Rattle.std.proofs.Common.mul-suc k (length (filter is_nonzero (map hash xs))) ∙ Rattle.std.proofs.Common.add_comm _ _ in
        omega (arith, length-append (g x) (flat_map g xs), rest, more, times)

-- how many entries a place has at least that isn't empty: two where a leaf would stand alone
abbrev pub weight : Option (List Hash) → List ℕ → ℕ
weight parent path = if is_lone parent path then 2 else 1

weight_most : (t : Bool) → (if t then 2 else 1) ≤ 2
weight_most true = omega arith
weight_most false = omega arith

five_tests : (a b c d : Bool) (w r e l : ShapeFault)
    → (if a then Some w else if b then Some r else if c then Some e else if d then Some l else None) ≡ None → d ≡ false
five_tests true b c d w r e l h = cc
five_tests false true c d w r e l h = cc
five_tests false false true d w r e l h = cc
five_tests false false false true w r e l h = cc
five_tests false false false false w r e l h = refl

-- a leaf that breaks no rule isn't alone
pub not_lone : (kind own : Kind) (key bytes : Bytes) (parent : Option (List Hash)) (path : List ℕ)
    → fault_of (leaf own key bytes) parent kind path ≡ None → is_lone parent path ≡ false
not_lone kind own key bytes parent path e =
    five_tests (not (Rattle.ledger_spec.specs.Rules.same_kind own kind)) (length path == 0) (not (lies_under path key))
    (is_lone parent path) Rattle.ledger_spec.specs.declared.ShapeFault.TheVariants.WrongKind
    Rattle.ledger_spec.specs.declared.ShapeFault.TheVariants.LeafAtRoot
    (Rattle.ledger_spec.specs.declared.ShapeFault.TheVariants.LeafElsewhere key)
    Rattle.ledger_spec.specs.declared.ShapeFault.TheVariants.LoneLeaf e

-- some hash that isn't zero is counted
pub some_counted : (hashes : List Hash) → IsTrue (list_any is_nonzero hashes) → 1 ≤ length (filter is_nonzero hashes)
some_counted [] some = cc
some_counted (h ∷ hashes) some = by_test (is_nonzero h) some (some_counted hashes)
  where
    by_test : (t : Bool) → (Rattle.std.proofs.Common.◌||◌ t (list_any is_nonzero hashes)) ≡ true
        → (IsTrue (list_any is_nonzero hashes) → 1 ≤ length (filter is_nonzero hashes))
        → 1 ≤ length (cond t (h ∷ filter is_nonzero hashes) (filter is_nonzero hashes))
    by_test true is rest = omega arith
    by_test false is rest = rest is

-- two entries, where one branch alone counts twice
pub two_at_least : (k count size : ℕ) → 1 ≤ count → (count ≡ 1 → k ≡ 2) → 1 ≤ k → k * count ≤ size → 2 ≤ size
two_at_least k count size some alone one fits =
    ⊎_elim
    (λ (e : count ≡ 1). let two : k ≡ 2 = alone e in let twice : k * count ≡ 2 = ap (λ m. m * count) two ∙ ap (λ m. 2 * m) e in omega arith)
    (λ (other : count ≡ 1 → ⊥). let enough : 2 ≤ count = omega arith in let times : 1 * count ≤ k * count =
    Rattle.std.proofs.Common.mul-le-mul_right count one in omega arith)
    (cases_eq count 1)

pub one_at_least : (k count size : ℕ) → 1 ≤ count → 1 ≤ k → k * count ≤ size → 1 ≤ size
one_at_least k count size some one fits =
    let times : 1 * count ≤ k * count = Rattle.std.proofs.Common.mul-le-mul_right count one in omega arith

-- one entry below the root is a leaf
pub single_form : (half : Half) (kind : Kind) (all : Items) (left : ℕ) (path : List ℕ) (e : Entry) → 0 < length path
    → form_of_part half kind all left path (e ∷ []) ≡ Some (leaf_form kind e.0 e.1)
unfolding form_of_part
single_form half kind all zero path e below = refl
single_form half kind all (suc left) [] e below = absurd (omega arith)
single_form half kind all (suc left) (n ∷ path) e below = refl

-- more are an inner node
pub inner_form : (half : Half) (kind : Kind) (all : Items) (left : ℕ) (path : List ℕ) (there : Items) → (1 ≤ length there)
    → (0 < length path → 2 ≤ length there)
    → form_of_part half kind all (suc left) path there ≡ Some (inner_prefix ++ flat_map (kid_hash half kind all left path) branches)
unfolding form_of_part
inner_form half kind all left path [] some many = absurd (omega arith)
inner_form half kind all left [] (e ∷ others) some many = refl
inner_form half kind all left (n ∷ path) (e ∷ []) some many = absurd (omega (arith, many (omega arith)))
inner_form half kind all left (n ∷ path) (e ∷ f ∷ others) some many = refl
