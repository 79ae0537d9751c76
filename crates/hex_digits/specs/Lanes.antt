-- Digits and their values side by side.
use Rattle.std.specs.Prelude.{◌≡◌, ℕ, ◌+◌, ◌*◌, ◌%◌, ◌<◌, ◌≤◌, nat_lt, Bool, List, [], ◌∷◌, take, MatchOption, Ok}
use Rattle.hex.specs.Hex.{decode_pairs, hex_digit_value}

-- x is the value of the digit c, or above 15 where c is none
abbrev pub IsValue : ℕ → ℕ → Type 0
IsValue c x = MatchOption (hex_digit_value c) (16 ≤ x) (λ v. (x ≡ v) × (x < 16))

-- so is each at its place
abbrev pub AreValues : List ℕ → List ℕ → Type 0
AreValues [] [] = Unit {0}
AreValues [] (x ∷ xs) = ⊥
AreValues (c ∷ cs) [] = ⊥
AreValues (c ∷ cs) (x ∷ xs) = IsValue c x × AreValues cs xs

-- it is the value of a digit
abbrev pub is_low : ℕ → Bool
is_low x = nat_lt x 16

-- a byte for two values, the high one first
abbrev pub bytes_of : List ℕ → List ℕ
bytes_of [] = []
bytes_of (a ∷ []) = []
bytes_of (a ∷ b ∷ rest) = (a * 16 % 256 + b) % 256 ∷ bytes_of rest

-- the first n bytes are those of the text's first 2 n digits
abbrev pub AreDecoded : List ℕ → List ℕ → ℕ → Type 0
AreDecoded text bytes n = decode_pairs 0 (take (2 * n) text) ≡ Ok (take n bytes)
