-- How a set finds the hashes of records.
use Rattle.std.specs.Prelude.{◌↔◌, List, IsTrue}
use Rattle.std.specs.List.{Contains}
use Rattle.std.specs.HashSet.{HashSet, contains}
use Rattle.ledger_spec.specs.Bytes.{Hash, same_bytes}

-- the set has a hash exactly where it is one of these
pub record Finds {S : Type 0} (set : HashSet Hash S) (hashes : List Hash) : Type 0 where
  pub found : (h : Hash) → IsTrue (contains same_bytes set h) ↔ Contains hashes h
