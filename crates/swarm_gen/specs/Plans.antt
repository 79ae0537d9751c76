-- The ranges of a plan.
use Rattle.std.specs.Prelude.{ℕ, ◌≤◌}
use Rattle.swarm_gen.specs.declared.plan.Plan.{Plan}

-- a number lies in a range, both ends in it
abbrev pub IsFrom : ℕ → ℕ → ℕ → Type 0
IsFrom least most n = (least ≤ n) × (n ≤ most)

-- each number of the plan lies in its range
pub record IsPlan (plan : Plan) : Type 0 where
  pub ledgers : IsFrom 1 200 plan.ledgers
  pub items : IsFrom 1 10000 plan.items
  pub liars : plan.liars ≤ 7
  pub actors : IsFrom 3 64 plan.actors
  pub interval : IsFrom 1 4294967295 plan.interval
