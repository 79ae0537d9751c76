-- Sums of counts of faults, gets and calls.
use Rattle.std.specs.Prelude.{◌≡◌, ◌≤◌, ℕ, ◌+◌, ◌-◌, ◌^◌, min}

-- a sum that stays at the last value of a u64
abbrev pub held_sum : ℕ → ℕ → ℕ
held_sum a b = min (a + b) (2 ^ 64 - 1)

-- one more form was asked for
pub record CountsGet (before after : ℕ) : Type 0 where
  pub counted : after ≡ held_sum before 1
  pub risen : before ≤ after
