-- A backend in memory, as it was made and as each call leaves it.
use Rattle.std.specs.Prelude.{◌≡◌, ℕ, List, Result}
use Rattle.std.specs.FinMap as map
use Rattle.node_backend.specs.Counts.{held_sum}
use Rattle.node_backend.specs.Calls.{fails_next, FailsExactly}
use Rattle.node_backend.specs.Faults.{OnFault, LeavesDevice}
use Rattle.node_backend.specs.declared.back.BackFault.{BackFault}
use Rattle.node_backend.specs.declared.memory.MemBackend.{MemBackend}

-- a backend of this number that holds nothing, whose counts are zero, and which fails in these calls
pub record IsNewMemory (n : ℕ) (calls : List ℕ) (b : MemBackend) : Type 0 where
  pub number : b.number ≡ n
  pub empty : b.map ≡ map.empty
  pub uncounted : (b.faults ≡ 0) × (b.gets ≡ 0) × (b.calls ≡ 0)
  pub plan : b.failing.items ≡ calls

-- what every call leaves of it: its number and its count of faults; it fails exactly in the calls of its plan, and counts its calls
pub record LeavesMemory {X : Type 0} (old new : MemBackend) (result : Result X BackFault) : Type 0 where
  pub device : LeavesDevice {D = MemBackend} (λ b. b.number) (λ b. b.faults) (OnFault result) old new
  pub planned : FailsExactly (fails_next old.calls old.failing.items) old.faults new.faults result
  pub called : (new.calls ≡ held_sum old.calls 1) × (new.failing ≡ old.failing)
