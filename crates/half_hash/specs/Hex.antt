-- Hashes as hexadecimal text.
use Rattle.std.specs.Prelude.{◌≡◌, ◌≢◌, ◌<◌, ℕ, List, length, slice_index, true, false, Ok}
use Rattle.hex.specs.Hex.{decode_of, is_hex_digit}
use Rattle.half_hash.specs.declared.hash32.HexFault.{HexFault}
use Rattle.half_hash.specs.declared.hash32.HexFault.TheVariants.{Length, Digit}

-- the text is 64 digits of either case, two for each byte of the hash
pub record IsHexOf (text hash : List ℕ) : Type 0 where
  pub digits : length text ≡ 64
  pub value : decode_of text ≡ Ok hash

-- the first byte of the text that is no hexadecimal digit stands at the place
pub record IsFirstBad (text : List ℕ) (place : ℕ) : Type 0 where
  pub within : place < length text
  pub bad : is_hex_digit (slice_index text place) ≡ false
  pub before : (k : ℕ) → k < place → is_hex_digit (slice_index text k) ≡ true

-- why a text is no hash: its length, and else its first byte that is no digit
abbrev pub HasCause : List ℕ → HexFault → Type 0
HasCause text (Length n) = (n ≡ length text) × (n ≢ 64)
HasCause text (Digit place) = (length text ≡ 64) × IsFirstBad text place
