-- What the bytes of a log say: entries one after another, up to the first gate that is closed or whose entry is cut short.
use Rattle.std.specs.Prelude.{ℕ, zero, suc, ◌==◌, nat_le, ◌&&◌, Bool, if◌then◌else◌, List, [], ◌∷◌, ◌++◌, length, take, drop, Option}
use Rattle.std.specs.Prelude.{None, Some}
use Rattle.std.specs.Int.{w64, to_be_bytes, from_be_bytes}

-- a number in eight bytes, the greatest first
unfoldable pub number_bytes : ℕ → List ℕ
number_bytes n = to_be_bytes w64 n

-- the number that the first eight bytes say
unfoldable pub number_in : List ℕ → ℕ
number_in bytes = from_be_bytes w64 (take 8 bytes)

-- an open gate, the length, the entry
abbrev pub text_of : List ℕ → List ℕ
text_of entry = 1 ∷ number_bytes (length entry) ++ entry

-- entries one after another
abbrev pub texts_of : List (List ℕ) → List ℕ
texts_of [] = []
texts_of (entry ∷ entries) = text_of entry ++ texts_of entries

-- behind a gate stand a length and so many bytes
abbrev pub is_whole : List ℕ → Bool
is_whole bytes = nat_le 8 (length bytes) && nat_le (number_in bytes) (length (drop 8 bytes))

-- the entry at the front, and what lies behind it
unfoldable pub front_of : List ℕ → Option (List ℕ × List ℕ)
front_of [] = None
front_of (gate ∷ rest) =
    if gate == 1 && is_whole rest then Some (take (number_in rest) (drop 8 rest), drop (number_in rest) (drop 8 rest)) else None

-- the entries from the one at the front on, at most so many
unfoldable pub entries_in : ℕ → Option (List ℕ × List ℕ) → List (List ℕ)
entries_in k None = []
entries_in zero (Some found) = []
entries_in (suc k) (Some found) = found.0 ∷ entries_in k (front_of found.1)

-- all of them
unfoldable pub entries_of : List ℕ → List (List ℕ)
entries_of bytes = entries_in (length bytes) (front_of bytes)
