-- A backend that was just made.
use Rattle.std.specs.Prelude.{◌≡◌, ℕ, Bool, IsTrue, Option, None}
use Rattle.std.specs.FinMap as map
use Rattle.ledger_spec.specs.Bytes.{Nodes}
use Rattle.node_backend.specs.Doubts.{Pair}

-- it holds nothing, where it tells that; its counts are zero, and nothing is in doubt
pub record IsEmptyBackend {B : Type 0} (tells : Bool) (held : B → Nodes) (faults gets : B → ℕ) (doubt : B → Option Pair) (b : B)
    : Type 0 where
  pub empty : IsTrue tells → held b ≡ map.empty
  pub uncounted : (faults b ≡ 0) × (gets b ≡ 0)
  pub sure : doubt b ≡ None
