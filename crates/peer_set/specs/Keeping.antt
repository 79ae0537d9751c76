-- What a set of peers keeps.
use Rattle.std.specs.Prelude.{◌≡◌, ℕ, nat_lt, false}
use Rattle.std.specs.Option.{option_map_or}
use Rattle.std.specs.Ordering.{nat_cmp}
use Rattle.ledger_spec.specs.Maps.{get_in}
use Rattle.ledger_spec.specs.Peers.{Peers, is_present, most_charges}

-- a peer is present exactly where it was added and has fewer charges than drop it
pub record Keeps (s : Peers) : Type 0 where
  pub present : (p : ℕ) → is_present s p ≡ option_map_or (λ n. nat_lt n most_charges) (get_in nat_cmp s.charges p) false
