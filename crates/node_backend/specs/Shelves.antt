-- A shelf in memory, as contracts see it.
use Rattle.std.specs.Prelude.{◌≡◌, ℕ, ◌-◌, ◌^◌, ◌==◌, ◌||◌, ◌+◌, Bool, List, Result, OnOk, OnErr}
use Rattle.node_backend.specs.Counts.{held_sum}
use Rattle.node_backend.specs.Calls.{fails_next, FailsExactly}
use Rattle.run_io.specs.Bytes.{CountsFaults}
use Rattle.node_backend.specs.Faults.{OnFault}
use Rattle.node_backend.specs.declared.back.BackFault.{BackFault}

-- the plans of its backends, how many it made, its two lists, its calls and those that fail, and its faults
pub record Shelved : Type 0 where
  pub plans : List (List ℕ)
  pub made : ℕ
  pub live : List ℕ
  pub undone : List ℕ
  pub calls : ℕ
  pub failing : List ℕ
  pub faults : ℕ

-- every number is used up
abbrev pub is_spent : ℕ → Bool
is_spent made = made == (2 ^ 64 - 1)

-- whether the next backend is refused
abbrev pub refuses_fresh : Shelved → Bool
refuses_fresh s = fails_next s.calls s.failing || is_spent s.made

-- one call more, and the plans as they were
abbrev pub Called : Shelved → Shelved → Type 0
Called s t = (t.calls ≡ held_sum s.calls 1) × (t.failing ≡ s.failing) × (t.plans ≡ s.plans)

-- one backend more was made, or none
pub record MakesOne {X E : Type 0} (s t : Shelved) (result : Result X E) : Type 0 where
  pub made : OnOk result (t.made ≡ s.made + 1)
  pub unmade : OnErr result (t.made ≡ s.made)

-- what every call leaves of it: its count of faults, and its plans; it fails exactly where this says so, and counts its calls
pub record LeavesShelved {X : Type 0} (fails : Bool) (s t : Shelved) (result : Result X BackFault) : Type 0 where
  pub counts : CountsFaults (OnFault result) s.faults t.faults
  pub planned : FailsExactly fails s.faults t.faults result
  pub called : Called s t
