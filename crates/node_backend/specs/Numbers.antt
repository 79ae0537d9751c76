-- The numbers of a shelf's backends, and what calls do to its two lists of them.
use Rattle.std.specs.Prelude.{◌≡◌, ◌++◌, ℕ, Bool, IsTrue, not, nat_lt, ◌==◌, List, [], ◌∷◌, Result, IfOk, OnOk, OnErr}
use Rattle.std.specs.List.{list_any, list_all, filter}

-- the number stands in the list
abbrev pub is_among : List ℕ → ℕ → Bool
is_among numbers n = list_any (λ k. k == n) numbers

-- it is greater than each of them
abbrev pub exceeds : ℕ → List ℕ → Bool
exceeds n numbers = list_all (λ k. nat_lt k n) numbers

-- the others
abbrev pub without : List ℕ → ℕ → List ℕ
without numbers n = filter (λ k. not (k == n)) numbers

-- the number of the backend that was made comes to the first list; where none was made nothing does; the second list stays
pub record ListsNew {B E U : Type 0} (number : B → ℕ) (live live' : List ℕ) (undone undone' : U) (result : Result B E) : Type 0 where
  pub listed : IfOk result (λ b. live' ≡ live ++ number b ∷ [])
  pub unlisted : OnErr result (live' ≡ live)
  pub others : undone' ≡ undone

-- a number leaves the first list; where that failed it goes into the second, if it stood in the first
pub record TakesBack {X E : Type 0} (n : ℕ) (live live' undone undone' : List ℕ) (result : Result X E) : Type 0 where
  pub gone : live' ≡ without live n
  pub done : OnOk result (undone' ≡ undone)
  pub kept : OnErr result (IsTrue (is_among live n) → undone' ≡ undone ++ n ∷ [])
