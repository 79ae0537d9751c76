-- Lists joined over branches: what holds of their elements, and what they have. For proofs of other crates.
use Rattle.std.proofs.Common.{◌≡◌, ◌≤◌, ◌<◌, ◌+◌, ◌==◌, ⊎_elim, ℕ, zero, suc, Bool, true, false, List, []}
use Rattle.std.proofs.Common.{◌∷◌, ◌++◌, refl, sym, subst, arith, Contains}
use Rattle.std.specs.List.{flat_map, range_with_len, AllByRecursion}
use Rattle.std.proofs.lemmas.Bool.{eqb-true, eqb-false}
use Rattle.std.proofs.lemmas.List.Elements.{Contains-append_left, Contains-append_right, Contains-append_cases}
use Rattle.tree_laws.proofs.shared.Orders.{all_append}

-- what holds of each number of a range
pub all_range : (P : ℕ → Type 0) (n a : ℕ) → ((c : ℕ) → a ≤ c → c < a + n → P c) → AllByRecursion P (range_with_len a n)
all_range P zero a h = tt
all_range P (suc n) a h = (h a (omega arith) (omega arith), all_range P n (a + 1) (λ c low high. h c (omega arith) (omega arith)))

-- and of each element of each part of a join
pub all_flat : {X : Type 0} (P : X → Type 0) (kids : ℕ → List X) (cs : List ℕ) → AllByRecursion (λ c. AllByRecursion P (kids c)) cs
    → AllByRecursion P (flat_map kids cs)
all_flat P kids [] h = tt
all_flat P kids (c ∷ cs) h = all_append P (kids c) (flat_map kids cs) h.0 (all_flat P kids cs h.1)

-- two joins are one where their parts are
pub flat_same : {X : Type 0} (f g : ℕ → List X) (cs : List ℕ) → AllByRecursion (λ c. f c ≡ g c) cs → flat_map f cs ≡ flat_map g cs
flat_same f g [] h = refl
flat_same f g (c ∷ cs) h = λ i. h.0 i ++ flat_same f g cs h.1 i

-- what a list has
pub in_nothing : {X : Type 0} {x : X} → Contains [] x → ⊥
in_nothing c = let below : c.0 < 0 = c.1 in omega (arith, below)

pub in_head : {X : Type 0} (x : X) (xs : List X) → Contains (x ∷ xs) x
in_head x xs = (0, omega arith, refl)

pub in_one : {X : Type 0} (x y : X) → Contains (x ∷ []) y → x ≡ y
in_one x y (zero, low, is) = is
in_one x y (suc n, low, is) = absurd (omega arith)

-- in a join, one of the parts has it; and it has what one of the parts has
pub in_join : {X : Type 0} (f : ℕ → List X) (bs : List ℕ) (x : X) → Contains (flat_map f bs) x → (b : ℕ) × Contains bs b
    × Contains (f b) x
in_join f [] x c = absurd (in_nothing c)
in_join f (b ∷ bs) x c =
    ⊎_elim (λ here. (b, in_head b bs, here))
    (λ later. let rest : (d : ℕ) × Contains bs d × Contains (f d) x = in_join f bs x later in
    (rest.0, Contains-append_right (b ∷ []) bs rest.0 rest.1, rest.2))
    (Contains-append_cases (f b) (flat_map f bs) x c)

pub join_has : {X : Type 0} (f : ℕ → List X) (bs : List ℕ) (b : ℕ) (x : X) → Contains bs b → Contains (f b) x
    → Contains (flat_map f bs) x
join_has f [] b x c there = absurd (in_nothing c)
join_has f (d ∷ bs) b x c there =
    ⊎_elim (λ same. Contains-append_left (f d) (flat_map f bs) x (subst (λ e. Contains (f e) x) (sym (in_one d b same)) there))
    (λ later. Contains-append_right (f d) (flat_map f bs) x (join_has f bs b x later there)) (Contains-append_cases (d ∷ []) bs b c)

-- a range has the numbers within it
pub in_range : (n a b : ℕ) → a ≤ b → b < a + n → Contains (range_with_len a n) b
in_range zero a b low high = absurd (omega arith)
in_range (suc n) a b low high = by (a == b) refl (λ more. in_range n (a + 1) b more (omega arith))
  where
    by : (t : Bool) → (a == b) ≡ t → (a + 1 ≤ b → Contains (range_with_len (a + 1) n) b) → Contains (range_with_len a (suc n)) b
    by true e rest = let same : a ≡ b = eqb-true a b e in subst (Contains (range_with_len a (suc n))) same
        (in_head a (range_with_len (a + 1) n))
    by false e rest = let other : (a ≡ b) → ⊥ = eqb-false a b e in Contains-append_right (a ∷ []) (range_with_len (a + 1) n) b
        (rest (omega arith))
