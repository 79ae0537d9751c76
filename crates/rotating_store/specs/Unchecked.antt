-- The hashes whose forms weren't checked yet.
use Rattle.std.specs.Prelude.{Bool, true, false, IsTrue}
use Rattle.std.specs.Option.{IsSome}
use Rattle.std.specs.FinMap as finite
use Rattle.std.specs.FinSet as set
use Rattle.ledger_spec.specs.Maps.{SetOf, hashes_in}
use Rattle.ledger_spec.specs.Bytes.{Hash, Nodes}

-- those put since the last swap, or whose forms were copied forward since; and those from before
pub record Unchecked : Type 0 where
  pub fresh : SetOf
  pub earlier : SetOf

-- all of them
abbrev pub unchecked_of : Unchecked → SetOf
unchecked_of n = set.union n.fresh n.earlier

-- with this hash among the fresh ones, and without it
abbrev pub with_hash : Unchecked → Hash → Unchecked
with_hash n h = record n { fresh = set.insert n.fresh h }

abbrev pub without_hash : Unchecked → Hash → Unchecked
without_hash n h = record { fresh = set.remove n.fresh h; earlier = set.remove n.earlier h }

-- of the hashes that the map holds, an earlier one is a fresh one too
abbrev pub AreCarried : Nodes → Unchecked → Type 0
AreCarried held n = (h : Hash) → IsTrue (set.contains n.earlier h) → IsSome (finite.get held h) → IsTrue (set.contains n.fresh h)

-- the hashes that are noted as checked: where a store tells what it holds, those that it holds and that aren't unchecked, and else none
abbrev pub noted_in : Bool → Nodes → Unchecked → SetOf
noted_in false held n = set.empty
noted_in true held n = set.difference (hashes_in held) (unchecked_of n)
