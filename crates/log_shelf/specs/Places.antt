-- Where the values of a backend stand in its log.
use Rattle.std.specs.Prelude.{◌≡◌, ℕ, ◌+◌, ◌≤◌, List, length, take, drop, Some, refl}
use Rattle.std.specs.Option.{option_map}
use Rattle.std.specs.Coded.{Coded, code_by, coded×, coded_ℕ}
use Rattle.std.specs.FinMap as map
use Rattle.ledger_spec.specs.Maps.{MapOf}
use Rattle.ledger_spec.specs.Bytes.{Hash, Nodes}
use Rattle.log_shelf.specs.declared.index.Place64.{Place64}

abbrev pub place_code : Coded Place64
place_code = code_by (ℕ × ℕ) (coded× coded_ℕ coded_ℕ) (λ p. (p.at, p.len)) (λ x. record { at = x.0; len = x.1 }) (λ _. refl)

abbrev pub Places : Type 0
Places = MapOf Place64

-- the bytes at a place
abbrev pub shown : List ℕ → Place64 → List ℕ
shown file place = take place.len (drop place.at file)

-- the places show exactly what is held, and lie within the file
pub record Shows (places : Places) (file : List ℕ) (held : Nodes) : Type 0 where
  pub finds : (h : Hash) → option_map (shown file) (map.get places h) ≡ map.get held h
  pub within : (h : Hash) (place : Place64) → map.get places h ≡ Some place → place.at + place.len ≤ length file
