-- How an index finds places.
use Rattle.std.specs.Prelude.{◌≡◌, ◌&&◌, ℕ, Bool, true, false, nat_lt, List, length, slice_index_or, Option, None, Some}
use Rattle.std.specs.List.{All, Contains}
use Rattle.ledger_spec.specs.declared.Place.{Place}
use Rattle.ledger_spec.specs.Maps.{ForHash, hash_cmp, get_in}
use Rattle.ledger_spec.specs.Peers.{same_place}
use Rattle.peer_set.specs.Keys.{key_of, IsPlace}

-- the place stands at this position
abbrev pub stands_at : List Place → Place → Option ℕ → Bool
stands_at all p None = false
stands_at all p (Some i) = nat_lt i (length all) && same_place p (slice_index_or all i p)

-- the index says where each of some places stands among all of them
pub record Finds (index : ForHash ℕ) (all some : List Place) : Type 0 where
  pub found : (p : Place) → Contains some p → stands_at all p (get_in hash_cmp index (key_of p)) ≡ true
  pub places : All IsPlace some
