-- The calls at which a device in memory fails.
use Rattle.std.specs.Prelude.{◌≡◌, ◌≢◌, ℕ, Bool, ◌==◌, List, [], cond, MatchBool, Result, Err}
use Rattle.std.specs.List.{list_any, slice_index_or}
use Rattle.node_backend.specs.Counts.{held_sum}
use Rattle.node_backend.specs.declared.back.BackFault.{BackFault}
use Rattle.node_backend.specs.declared.back.BackFault.TheVariants.{Fault}

-- the call after so many others is among those that fail
abbrev pub fails_next : ℕ → List ℕ → Bool
fails_next calls failing = list_any (λ n. n == held_sum calls 1) failing

-- a call that fails raises the count of faults by one, and no other call changes it
abbrev pub faults_after : Bool → ℕ → ℕ
faults_after fails faults = cond fails (held_sum faults 1) faults

-- the plan of a backend, by how many were made before it
abbrev pub plan_at : List (List ℕ) → ℕ → List ℕ
plan_at plans made = slice_index_or plans made []

-- a call fails exactly where this says so, and only then the count of faults is one more
pub record FailsExactly {X : Type 0} (fails : Bool) (before after : ℕ) (result : Result X BackFault) : Type 0 where
  pub exact : MatchBool fails (result ≡ Err Fault) (result ≢ Err Fault)
  pub failed : after ≡ faults_after fails before
