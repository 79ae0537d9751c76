-- What a book keeps.
use Rattle.std.specs.Prelude.{◌<◌, ◌≤◌}
use Rattle.std.specs.List.{All}
use Rattle.std.specs.Map.{values_of}
use Rattle.ledger_spec.specs.Retaining.{Retention}

-- no listed ledger is below the floor, each pinned one is pinned at least once, and rotations are at least one ledger apart
pub record Keeps (b : Retention) : Type 0 where
  pub high : All (λ seq. b.floor ≤ seq) (values_of b.listed)
  pub pinned : All (λ n. 0 < n) (values_of b.pins)
  pub apart : 0 < b.interval
