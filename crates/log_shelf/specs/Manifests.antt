-- The manifest: which logs were made, and which of them are gone.
use Rattle.std.specs.Prelude.{ℕ, ◌+◌, ◌-◌, ◌^◌, ◌==◌, ◌||◌, ◌&&◌, Bool, nat_le, IsTrue, if◌then◌else◌, List, [], ◌∷◌, ◌++◌, length, Option}
use Rattle.run_io.specs.Bytes.{Rose}
use Rattle.std.specs.Prelude.{◌⊎◌, ◌<◌, ◌≡◌}
use Rattle.node_backend.specs.Numbers.{is_among, exceeds, without}
use Rattle.log_shelf.specs.Entries.{number_bytes, number_in, entries_of}
use Rattle.log_shelf.specs.Logs.{with_doubted}

-- the entry of a log that was made, and of one that is gone
abbrev pub made_entry : ℕ → List ℕ
made_entry number = 1 ∷ number_bytes number

abbrev pub gone_entry : ℕ → List ℕ
gone_entry number = 2 ∷ number_bytes number

-- the live numbers after one entry
unfoldable pub noted : List ℕ → List ℕ → List ℕ
noted live [] = live
noted live (kind ∷ rest) =
    if nat_le 8 (length rest)
    then if kind == 1 then live ++ number_in rest ∷ [] else if kind == 2 then without live (number_in rest) else live else live

-- the live numbers after these entries
abbrev pub live_after : List ℕ → List (List ℕ) → List ℕ
live_after live [] = live
live_after live (entry ∷ entries) = live_after (noted live entry) entries

abbrev pub live_of : List (List ℕ) → List ℕ
live_of entries = live_after [] entries

-- each of the numbers is live in this file
abbrev pub AreLive : List ℕ → List ℕ → Type 0
AreLive numbers file = (n : ℕ) → IsTrue (is_among numbers n) → IsTrue (is_among (live_of (entries_of file)) n)

-- the number stands in one of the two lists
abbrev pub is_listed : List ℕ → List ℕ → ℕ → Bool
is_listed live undone n = is_among live n || is_among undone n

-- each number that the file names as live stands in one of the two lists, or is this one, where it is allowed
abbrev pub NamesOnly : List ℕ → List ℕ → Bool → ℕ → List ℕ → Type 0
NamesOnly live undone allowed one file =
    (n : ℕ) → IsTrue (is_among (live_of (entries_of file)) n) → IsTrue (is_listed live undone n || (allowed && (n == one)))

-- what a shelf keeps: its numbers were used up, none is the manifest's, and the live ones are live by the manifest, whether the entry
-- in doubt counts or not; and no others are, but the next one where it may be in doubt
pub record Manifested (live undone : List ℕ) (made : ℕ) (next_may : Bool) (told : List (List ℕ)) (doubt : Option (List ℕ)) : Type 0 where
  pub live_made : IsTrue (exceeds (made + 1) live)
  pub undone_made : IsTrue (exceeds (made + 1) undone)
  pub positive : (n : ℕ) → IsTrue (is_among live n) → 0 < n
  pub told_live : (n : ℕ) → IsTrue (is_among live n) → IsTrue (is_among (live_of told) n)
  pub doubt_live : (n : ℕ) → IsTrue (is_among live n) → IsTrue (is_among (live_of (with_doubted told doubt)) n)
  pub told_named : (n : ℕ) → IsTrue (is_among (live_of told) n) → IsTrue (is_listed live undone n)
  pub doubt_named : (n : ℕ) → IsTrue (is_among (live_of (with_doubted told doubt)) n)
      → IsTrue (is_listed live undone n || (next_may && (n == made + 1)))

-- why no log was made: the room or the manifest failed, no number is left, or the new log's disk failed, which is kept as the broken one
abbrev pub FreshFailed : ℕ → ℕ → ℕ → ℕ → ℕ → Type 0 → Type 0
FreshFailed room room' manifest manifest' made broken = Rose room room' ⊎ (Rose manifest manifest' ⊎ ((made ≡ 2 ^ 64 - 1) ⊎ broken))
