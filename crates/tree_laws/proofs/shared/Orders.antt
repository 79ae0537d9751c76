-- Keys are ordered as their nibbles are, and what lies under one branch stands before what lies under a later one. For proofs of other
-- crates.
use Rattle.std.proofs.Common.{◌≡◌, ◌⊎◌, inl, inr, ◌≤◌, ◌<◌, ◌+◌, ◌/◌, ◌%◌, ◌==◌, ℕ, zero, suc, true, List, [], ◌∷◌, ◌++◌, length, drop}
use Rattle.std.proofs.Common.{map, nat_lt, cond, refl, sym, ap, ◌∙◌, subst, arith}
use Rattle.std.proofs.lemmas.Bool.{cond-true, cond-false, lt-ltb, le-ltb, eq-eqb, ne_eqb, cases_order}
use Rattle.std.proofs.lemmas.List.{take-append-drop, append_assoc}
use Rattle.std.specs.declared.cmp.Ordering.{Ordering}
use Rattle.std.specs.declared.cmp.Ordering.TheVariants.{Less, Equal, Greater}
use Rattle.std.specs.Ordering.{nat_cmp, ordering_then}
use Rattle.std.specs.Cmp.Lexicographic.{slice_cmp}
use Rattle.std.specs.List.{flat_map, range_with_len, AllByRecursion}
use Rattle.std.specs.List.Sorted.{IsStrictlySortedBy}
use Rattle.std.specs.Map.{keys_of}
use Rattle.nib_path.specs.Paths.{nibbles, lies_under}
use Rattle.ledger_spec.specs.Maps.{hash_cmp, IsMap}
use Rattle.ledger_spec.specs.Bytes.{Hash, Items}
use Rattle.ledger_spec.specs.Tree.{Entry}
use Rattle.tree_laws.proofs.shared.Trees.{under_begins}

-- how two numbers compare
pub less : (x y : ℕ) → x < y → nat_cmp x y ≡ Less
less x y h = cond-true (nat_lt x y) Less (cond (x == y) Equal Greater) (lt-ltb x y h)

pub equal : (x y : ℕ) → x ≡ y → nat_cmp x y ≡ Equal
equal x y h =
    cond-false (nat_lt x y) Less (cond (x == y) Equal Greater) (le-ltb x y (omega arith)) ∙ cond-true (x == y) Equal Greater (eq-eqb x y h)

pub greater : (x y : ℕ) → y < x → nat_cmp x y ≡ Greater
greater x y h =
    cond-false (nat_lt x y) Less (cond (x == y) Equal Greater) (le-ltb x y (omega arith))
    ∙ cond-false (x == y) Equal Greater (ne_eqb x y (λ e. omega arith))

-- a byte is ordered as its two nibbles are
byte_cmp : (x y : ℕ) (o : Ordering)
    → ordering_then (nat_cmp (x / 16) (y / 16)) (ordering_then (nat_cmp (x % 16) (y % 16)) o) ≡ ordering_then (nat_cmp x y) o
byte_cmp x y o = by_high (cases_order (x / 16) (y / 16))
  where
    then : Ordering → Ordering → Ordering
    then a b = ordering_then a (ordering_then b o)

    by_low : x / 16 ≡ y / 16 → (x % 16 ≡ y % 16) ⊎ ((x % 16 < y % 16) ⊎ (y % 16 < x % 16))
        → ordering_then (nat_cmp (x / 16) (y / 16)) (ordering_then (nat_cmp (x % 16) (y % 16)) o) ≡ ordering_then (nat_cmp x y) o
    by_low same (inl e) =
        ap (λ a. ordering_then a (ordering_then (nat_cmp (x % 16) (y % 16)) o)) (equal _ _ same) ∙ ap (λ a. ordering_then a o) (equal _ _ e)
        ∙ sym (ap (λ a. ordering_then a o) (equal x y (omega arith)))
    by_low same (inr (inl l)) =
        ap (λ a. ordering_then a (ordering_then (nat_cmp (x % 16) (y % 16)) o)) (equal _ _ same) ∙ ap (λ a. ordering_then a o) (less _ _ l)
        ∙ sym (ap (λ a. ordering_then a o) (less x y (omega arith)))
    by_low same (inr (inr g)) =
        ap (λ a. ordering_then a (ordering_then (nat_cmp (x % 16) (y % 16)) o)) (equal _ _ same)
        ∙ ap (λ a. ordering_then a o) (greater _ _ g) ∙ sym (ap (λ a. ordering_then a o) (greater x y (omega arith)))

    by_high : (x / 16 ≡ y / 16) ⊎ ((x / 16 < y / 16) ⊎ (y / 16 < x / 16))
        → ordering_then (nat_cmp (x / 16) (y / 16)) (ordering_then (nat_cmp (x % 16) (y % 16)) o) ≡ ordering_then (nat_cmp x y) o
    by_high (inl e) = by_low e (cases_order (x % 16) (y % 16))
    by_high (inr (inl l)) =
        ap (λ a. ordering_then a (ordering_then (nat_cmp (x % 16) (y % 16)) o)) (less _ _ l)
        ∙ sym (ap (λ a. ordering_then a o) (less x y (omega arith)))
    by_high (inr (inr g)) =
        ap (λ a. ordering_then a (ordering_then (nat_cmp (x % 16) (y % 16)) o)) (greater _ _ g)
        ∙ sym (ap (λ a. ordering_then a o) (greater x y (omega arith)))

pub nibbles_cmp : (a b : List ℕ) → slice_cmp nat_cmp (nibbles a) (nibbles b) ≡ slice_cmp nat_cmp a b
nibbles_cmp [] [] = refl
nibbles_cmp [] (y ∷ b) = refl
nibbles_cmp (x ∷ a) [] = refl
nibbles_cmp (x ∷ a) (y ∷ b) =
    ap (λ o. ordering_then (nat_cmp (x / 16) (y / 16)) (ordering_then (nat_cmp (x % 16) (y % 16)) o)) (nibbles_cmp a b)
    ∙ byte_cmp x y (slice_cmp nat_cmp a b)

-- a front in common doesn't count
front_cmp : (p xs ys : List ℕ) → slice_cmp nat_cmp (p ++ xs) (p ++ ys) ≡ slice_cmp nat_cmp xs ys
front_cmp [] xs ys = refl
front_cmp (x ∷ p) xs ys = ap (λ o. ordering_then o (slice_cmp nat_cmp (p ++ xs) (p ++ ys))) (equal x x refl) ∙ front_cmp p xs ys

-- what lies under an earlier branch is less
pub branch_less : (path : List ℕ) (b c : ℕ) (k l : Hash) → b < c → lies_under (path ++ b ∷ []) k ≡ true
    → lies_under (path ++ c ∷ []) l ≡ true → hash_cmp k l ≡ Less
branch_less path b c k l lt under_b under_c =
    let split : (d : ℕ) (m : Hash) → lies_under (path ++ d ∷ []) m ≡ true
    → nibbles m ≡ path ++ (d ∷ drop (length (path ++ d ∷ [])) (nibbles m)) = λ d m under.
    sym (take-append-drop (length (path ++ d ∷ [])) (nibbles m))
    ∙ ap (λ (t : List ℕ). t ++ drop (length (path ++ d ∷ [])) (nibbles m)) (sym (under_begins (path ++ d ∷ []) m under))
    ∙ append_assoc path (d ∷ []) (drop (length (path ++ d ∷ [])) (nibbles m))
    in
    sym (nibbles_cmp k l) ∙ ap (λ t. slice_cmp nat_cmp t (nibbles l)) (split b k under_b)
    ∙ ap (slice_cmp nat_cmp (path ++ (b ∷ drop (length (path ++ b ∷ [])) (nibbles k)))) (split c l under_c)
    ∙ front_cmp path _ _ ∙ ap (λ o. ordering_then o
    (slice_cmp nat_cmp (drop (length (path ++ b ∷ [])) (nibbles k)) (drop (length (path ++ c ∷ [])) (nibbles l)))) (less b c lt)

-- a fact of each of two lists is one of their join
pub all_append : {X : Type 0} (P : X → Type 0) (xs ys : List X) → AllByRecursion P xs → AllByRecursion P ys → AllByRecursion P (xs ++ ys)
all_append P [] ys all more = more
all_append P (x ∷ xs) ys all more = (all.0, all_append P xs ys all.1 more)

pub all_map : {X Y : Type 0} (P : Y → Type 0) (f : X → Y) (xs : List X) → AllByRecursion (λ x. P (f x)) xs → AllByRecursion P (map f xs)
all_map P f [] all = tt
all_map P f (x ∷ xs) all = (all.0, all_map P f xs all.1)

pub all_weaker : {X : Type 0} (P Q : X → Type 0) → ((x : X) → P x → Q x) → (xs : List X) → AllByRecursion P xs → AllByRecursion Q xs
all_weaker P Q weaker [] all = tt
all_weaker P Q weaker (x ∷ xs) all = (weaker x all.0, all_weaker P Q weaker xs all.1)

-- two maps join where each key of the first is below those of the second
pub map_append : (xs ys : Items) → IsMap hash_cmp xs → IsMap hash_cmp ys
    → AllByRecursion (λ (e : Entry). AllByRecursion (λ (f : Entry). hash_cmp e.0 f.0 ≡ Less) ys) xs → IsMap hash_cmp (xs ++ ys)
unfolding IsStrictlySortedBy
map_append [] ys sorted_xs sorted_ys across = sorted_ys
map_append (x ∷ xs) ys sorted_xs sorted_ys across = (
  subst (AllByRecursion (λ k. hash_cmp x.0 k ≡ Less)) (sym (Rattle.std.proofs.lemmas.List.map-append (λ (e : Entry). e.0) xs ys))
      (all_append _ (keys_of xs) (keys_of ys) sorted_xs.0 (all_map (λ k. hash_cmp x.0 k ≡ Less) (λ (e : Entry). e.0) ys across.0)),
  map_append xs ys sorted_xs.1 sorted_ys across.1,
)

-- the entries under some branch from a on
abbrev pub UnderFrom : List ℕ → ℕ → Entry → Type 0
UnderFrom path a e = (c : ℕ) × (a ≤ c) × (lies_under (path ++ c ∷ []) e.0 ≡ true)

pub under_branches : (path : List ℕ) (g : ℕ → Items)
    → ((b : ℕ) → AllByRecursion (λ (e : Entry). lies_under (path ++ b ∷ []) e.0 ≡ true) (g b)) → (a n : ℕ)
    → AllByRecursion (UnderFrom path a) (flat_map g (range_with_len a n))
under_branches path g under a zero = tt
under_branches path g under a (suc n) =
    all_append (UnderFrom path a) (g a) (flat_map g (range_with_len (a + 1) n))
    (all_weaker (λ (e : Entry). lies_under (path ++ a ∷ []) e.0 ≡ true) (UnderFrom path a) (λ e u. (a, omega (arith), u)) (g a) (under a))
    (all_weaker (UnderFrom path (a + 1)) (UnderFrom path a) (λ e u. (u.0, omega (arith, u.1), u.2))
    (flat_map g (range_with_len (a + 1) n)) (under_branches path g under (a + 1) n))

-- the maps under the branches, joined, are a map
pub map_branches : (path : List ℕ) (g : ℕ → Items) → ((b : ℕ) → IsMap hash_cmp (g b))
    → ((b : ℕ) → AllByRecursion (λ (e : Entry). lies_under (path ++ b ∷ []) e.0 ≡ true) (g b)) → (a n : ℕ)
    → IsMap hash_cmp (flat_map g (range_with_len a n))
unfolding IsStrictlySortedBy
map_branches path g sorted under a zero = tt
map_branches path g sorted under a (suc n) =
    map_append (g a) (flat_map g (range_with_len (a + 1) n)) (sorted a) (map_branches path g sorted under (a + 1) n)
    (all_weaker (λ (e : Entry). lies_under (path ++ a ∷ []) e.0 ≡ true) _
    (λ e u.
    all_weaker (UnderFrom path (a + 1)) (λ (f : Entry). hash_cmp e.0 f.0 ≡ Less)
    (λ f v. branch_less path a v.0 e.0 f.0 (omega (arith, v.1)) u v.2)
    (flat_map g (range_with_len (a + 1) n)) (under_branches path g under (a + 1) n))
    (g a) (under a))
