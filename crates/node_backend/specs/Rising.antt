-- The rising order of the hashes of a map.
use Rattle.std.specs.Prelude.{◌≡◌, is_some, List}
use Rattle.std.specs.List.{list_any}
use Rattle.std.specs.List.Sorted.{IsSorted}
use Rattle.std.specs.FinMap as map
use Rattle.ledger_spec.specs.Maps.{MapOf, hash_cmp}
use Rattle.ledger_spec.specs.Bytes.{Hash, same_bytes}

-- the list rises, and has the keys of the map
pub record IsRising {X : Type 0} (order : List Hash) (m : MapOf X) : Type 0 where
  pub up : IsSorted hash_cmp order
  pub has : (h : Hash) → is_some (map.get m h) ≡ list_any (same_bytes h) order
