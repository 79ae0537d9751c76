-- The actors whose fetch failed: each stays once, and without one of them they are fewer.
use Rattle.std.proofs.Common.{◌≡◌, ◌≤◌, ℕ, suc, Bool, true, false, cond, List, [], ◌∷◌, ◌++◌, length, refl, sym}
use Rattle.std.proofs.Common.{arith, nat_eq, length-append}
use Rattle.std.specs.Prelude.{◌==◌, ◌||◌, not}
use Rattle.std.specs.List.{filter, IsDistinct, AllByRecursion}
use Rattle.std.proofs.lemmas.Bool.{false≢true}
use Rattle.store_core.specs.Failing.{is_among, with_failed, without}

-- there are no more without one
pub without_few : (a : ℕ) (failed : List ℕ) → length (without a failed) ≤ length failed
without_few a [] = omega arith
without_few a (b ∷ failed) = at (b == a) (without_few a failed)
  where
    at : (t : Bool) → length (without a failed) ≤ length failed
        → length (cond (not t) (b ∷ without a failed) (without a failed)) ≤ suc (length failed)
    at true few = omega (arith, few)
    at false few = omega (arith, few)

-- and fewer without one of them
pub without_fewer : (a : ℕ) (failed : List ℕ) → is_among a failed ≡ true → suc (length (without a failed)) ≤ length failed
without_fewer a [] is = absurd (false≢true is)
without_fewer a (b ∷ failed) is = at (b == a) (without_fewer a failed) is
  where
    at : (t : Bool) → (is_among a failed ≡ true → suc (length (without a failed)) ≤ length failed) → (t || is_among a failed) ≡ true
        → suc (length (cond (not t) (b ∷ without a failed) (without a failed))) ≤ suc (length failed)
    at true rest is = omega (arith, without_few a failed)
    at false rest is = omega (arith, rest is)

-- with one more at the end
snoc_all : {X : Type 0} (P : X → Type 0) (xs : List X) (x : X) → AllByRecursion P xs → P x → AllByRecursion P (xs ++ x ∷ [])
snoc_all P [] x all p = (p, tt)
snoc_all P (y ∷ xs) x all p = (all.0, snoc_all P xs x all.1 p)

pub distinct_more : (a : ℕ) (failed : List ℕ) → IsDistinct nat_eq failed → is_among a failed ≡ false → IsDistinct nat_eq (failed ++ a ∷ [])
unfolding IsDistinct
distinct_more a [] distinct is = (tt, tt)
distinct_more a (b ∷ failed) distinct is = at (b == a) refl is (distinct_more a failed distinct.1)
  where
    at : (t : Bool) → (b == a) ≡ t → (t || is_among a failed) ≡ false
        → (is_among a failed ≡ false → IsDistinct nat_eq (failed ++ a ∷ []))
        → AllByRecursion (λ y. nat_eq b y ≡ false) (failed ++ a ∷ []) × IsDistinct nat_eq (failed ++ a ∷ [])
    at true e is rest = absurd (false≢true (sym is))
    at false e is rest = (snoc_all (λ y. nat_eq b y ≡ false) failed a distinct.0 e, rest is)

-- a test leaves those that are apart so
filter_all : {X : Type 0} (P : X → Type 0) (test : X → Bool) (xs : List X) → AllByRecursion P xs → AllByRecursion P (filter test xs)
filter_all P test [] all = tt
filter_all P test (x ∷ xs) all = at (test x) (filter_all P test xs all.1)
  where
    at : (t : Bool) → AllByRecursion P (filter test xs) → AllByRecursion P (cond t (x ∷ filter test xs) (filter test xs))
    at true rest = (all.0, rest)
    at false rest = rest

pub distinct_less : (test : ℕ → Bool) (failed : List ℕ) → IsDistinct nat_eq failed → IsDistinct nat_eq (filter test failed)
unfolding IsDistinct
distinct_less test [] distinct = tt
distinct_less test (b ∷ failed) distinct = at (test b) (distinct_less test failed distinct.1)
  where
    at : (t : Bool) → IsDistinct nat_eq (filter test failed) → IsDistinct nat_eq (cond t (b ∷ filter test failed) (filter test failed))
    at true rest = (filter_all (λ y. nat_eq b y ≡ false) test failed distinct.0, rest)
    at false rest = rest

-- with an actor more there is at most one more
pub with_few : (a : ℕ) (failed : List ℕ) → length (with_failed a failed) ≤ suc (length failed)
with_few a failed = at (is_among a failed)
  where
    at : (t : Bool) → length (cond t failed (failed ++ a ∷ [])) ≤ suc (length failed)
    at true = omega arith
    at false = omega (arith, length-append failed (a ∷ []))

pub distinct_none : IsDistinct nat_eq []
unfolding IsDistinct
distinct_none = tt
