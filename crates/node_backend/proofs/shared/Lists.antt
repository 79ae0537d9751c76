-- Numbers in lists. For proofs of other crates.
use Rattle.std.proofs.Common.{◌≡◌, ◌≢◌, ◌≤◌, ◌<◌, ◌+◌, ℕ, Bool, true, false, not, cond, ◌&&◌, ◌||◌, List, [], ◌∷◌, ◌++◌, length}
use Rattle.std.proofs.Common.{◌==◌, IsTrue, refl, sym, subst, ◌∙◌, arith, length-append}
use Rattle.std.proofs.lemmas.Bool.{eqb-true, eq-eqb, ltb-true, lt-ltb}
use Rattle.node_backend.specs.Numbers.{is_among, exceeds, without}

pub and_left : (a b : Bool) → (a && b) ≡ true → a ≡ true
and_left true b h = refl
and_left false b h = h

pub and_right : (a b : Bool) → (a && b) ≡ true → b ≡ true
and_right true b h = h
and_right false b h = cc

and_both : (a b : Bool) → a ≡ true → b ≡ true → (a && b) ≡ true
and_both true b p q = q
and_both false b p q = p

or_right : (a b : Bool) → b ≡ true → (a || b) ≡ true
or_right true b p = refl
or_right false b p = p

no_true : false ≡ true → ⊥
no_true e = cc

-- what exceeds all exceeds those that are left
pub exceeds_without : (n k : ℕ) (xs : List ℕ) → IsTrue (exceeds n xs) → IsTrue (exceeds n (without xs k))
exceeds_without n k [] h = refl
exceeds_without n k (x ∷ xs) h =
    elim (x == k) as (λ b. exceeds n (cond (not b) (x ∷ without xs k) (without xs k)) ≡ true) [
      | true ↦ exceeds_without n k xs (and_right _ _ h)
      | false ↦ and_both _ _ (and_left _ _ h) (exceeds_without n k xs (and_right _ _ h))
    ]

-- a number in the list is less
pub below_among : (n k : ℕ) (xs : List ℕ) → IsTrue (exceeds n xs) → IsTrue (is_among xs k) → k < n
below_among n k [] h among = absurd (no_true among)
below_among n k (x ∷ xs) h among =
    elim (x == k) as (λ b. (x == k) ≡ b → (b || is_among xs k) ≡ true → k < n) [
      | true ↦ λ e _. subst (λ j. j < n) (eqb-true x k e) (ltb-true x n (and_left _ _ h))
      | false ↦ λ e r. below_among n k xs (and_right _ _ h) r
    ] refl among

-- a greater number exceeds them too
pub exceeds_more : (n m : ℕ) (xs : List ℕ) → n ≤ m → IsTrue (exceeds n xs) → IsTrue (exceeds m xs)
exceeds_more n m [] le h = refl
exceeds_more n m (x ∷ xs) le h =
    let less : x < n = ltb-true x n (and_left _ _ h) in
    and_both _ _ (lt-ltb x m (omega arith)) (exceeds_more n m xs le (and_right _ _ h))

-- and one more that is less
pub exceeds_append : (n k : ℕ) (xs : List ℕ) → IsTrue (exceeds n xs) → k < n → IsTrue (exceeds n (xs ++ k ∷ []))
exceeds_append n k [] h less = and_both _ _ (lt-ltb k n less) refl
exceeds_append n k (x ∷ xs) h less = and_both _ _ (and_left _ _ h) (exceeds_append n k xs (and_right _ _ h) less)

-- a number stays in a list that grows
pub among_append : (n k : ℕ) (xs : List ℕ) → IsTrue (is_among xs k) → IsTrue (is_among (xs ++ n ∷ []) k)
among_append n k [] h = absurd (no_true h)
among_append n k (x ∷ xs) h =
    elim (x == k) as (λ b. (b || is_among xs k) ≡ true → (b || is_among (xs ++ n ∷ []) k) ≡ true) [
      | true ↦ λ _. refl
      | false ↦ λ r. among_append n k xs r
    ] h

-- and the new one stands in it
pub among_last : (n : ℕ) (xs : List ℕ) → IsTrue (is_among (xs ++ n ∷ []) n)
among_last n [] = rw (eq-eqb n n refl) refl
among_last n (x ∷ xs) = or_right (x == n) _ (among_last n xs)

-- another number stays where one is taken out
pub among_without : (n k : ℕ) (xs : List ℕ) → k ≢ n → IsTrue (is_among xs k) → IsTrue (is_among (without xs n) k)
among_without n k [] other h = absurd (no_true h)
among_without n k (x ∷ xs) other h =
    elim (x == n) as (λ b. (x == n) ≡ b → is_among (cond (not b) (x ∷ without xs n) (without xs n)) k ≡ true) [
      | true ↦ λ e. elim (x == k) as (λ b. (x == k) ≡ b → (b || is_among xs k) ≡ true → is_among (without xs n) k ≡ true) [
        | true ↦ λ f _. absurd (other (sym (eqb-true x k f) ∙ eqb-true x n e))
        | false ↦ λ f r. among_without n k xs other r
      ] refl h
      | false ↦ λ e. elim (x == k) as (λ b. (b || is_among xs k) ≡ true → (b || is_among (without xs n) k) ≡ true) [
        | true ↦ λ _. refl
        | false ↦ λ r. among_without n k xs other r
      ] h
    ] refl

-- no more are left than there were
pub without_le : (n : ℕ) (xs : List ℕ) → length (without xs n) ≤ length xs
without_le n [] = omega arith
without_le n (x ∷ xs) =
    let rest : length (without xs n) ≤ length xs = without_le n xs in
    elim (x == n) as (λ b. length (cond (not b) (x ∷ without xs n) (without xs n)) ≤ length (x ∷ xs)) [
      | true ↦ omega arith
      | false ↦ omega arith
    ]

-- and fewer where one was taken out
pub without_less : (n : ℕ) (xs : List ℕ) → IsTrue (is_among xs n) → length (without xs n) < length xs
without_less n [] h = absurd (no_true h)
without_less n (x ∷ xs) h =
    elim (x == n) as (λ b. (b || is_among xs n) ≡ true → length (cond (not b) (x ∷ without xs n) (without xs n)) < length (x ∷ xs)) [
      | true ↦ λ _. let rest : length (without xs n) ≤ length xs = without_le n xs in omega arith
      | false ↦ λ r. let rest : length (without xs n) < length xs = without_less n xs r in omega arith
    ] h

-- a number that is handed out exceeds those before, and the next will exceed it
pub listed_all : (made : ℕ) (live undone live' undone' : List ℕ) → IsTrue (exceeds (made + 1) live) → IsTrue (exceeds (made + 1) undone)
    → live' ≡ live ++ (made + 1) ∷ [] → undone' ≡ undone → IsTrue (exceeds (made + 1 + 1) live') × IsTrue (exceeds (made + 1 + 1) undone')
listed_all made live undone live' undone' h k listed same = (
  subst (λ (xs : List ℕ). IsTrue (exceeds (made + 1 + 1) xs)) (sym listed)
      (exceeds_append (made + 1 + 1) (made + 1) live (exceeds_more (made + 1) (made + 1 + 1) live (omega arith) h) (omega arith)),
  subst (λ (xs : List ℕ). IsTrue (exceeds (made + 1 + 1) xs)) (sym same) (exceeds_more (made + 1) (made + 1 + 1) undone (omega arith) k),
)

-- what is left where a number is taken out
pub left_over : (made n room : ℕ) (live undone live' : List ℕ) → IsTrue (exceeds (made + 1) live) → IsTrue (exceeds (made + 1) undone)
    → length undone + length live ≤ room → live' ≡ without live n
    → IsTrue (exceeds (made + 1) live') × IsTrue (exceeds (made + 1) undone) × (length undone + length live' ≤ room)
left_over made n room live undone live' h k fits gone =
    let less : length (without live n) ≤ length live = without_le n live in (
      subst (λ (xs : List ℕ). IsTrue (exceeds (made + 1) xs)) (sym gone) (exceeds_without (made + 1) n live h),
      k,
      subst (λ (xs : List ℕ). length undone + length xs ≤ room) (sym gone) (omega arith),
    )

-- and where it goes into the other list
pub moved_over : (made n room room' : ℕ) (live undone live' undone' : List ℕ) → IsTrue (exceeds (made + 1) live)
    → IsTrue (exceeds (made + 1) undone)
    → length undone + length live ≤ room → live' ≡ without live n → IsTrue (is_among live n) → undone' ≡ undone ++ n ∷ [] → room ≤ room'
    → IsTrue (exceeds (made + 1) live') × IsTrue (exceeds (made + 1) undone') × (length undone' + length live' ≤ room')
moved_over made n room room' live undone live' undone' h k fits gone among kept more =
    let less : length (without live n) < length live = without_less n live among in
    let one : length (undone ++ n ∷ []) ≡ length undone + 1 = length-append undone (n ∷ []) in (
      subst (λ (xs : List ℕ). IsTrue (exceeds (made + 1) xs)) (sym gone) (exceeds_without (made + 1) n live h),
      subst (λ (xs : List ℕ). IsTrue (exceeds (made + 1) xs)) (sym kept)
          (exceeds_append (made + 1) n undone k (below_among (made + 1) n live h among)),
      subst (λ (xs : List ℕ). length undone' + length xs ≤ room') (sym gone)
          (subst (λ (xs : List ℕ). length xs + length (without live n) ≤ room') (sym kept) (omega arith)),
    )
