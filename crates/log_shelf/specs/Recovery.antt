-- What is recovered from the files that a stop left.
use Rattle.std.specs.Prelude.{◌≡◌, ℕ, ◌<◌, ◌≤◌, Bool, false, IsTrue, List, [], ◌∷◌, Option, Some}
use Rattle.std.specs.List.{filter}
use Rattle.std.specs.Option.{option_map_or}
use Rattle.std.specs.FinMap as map
use Rattle.ledger_spec.specs.Bytes.{Bytes, Hash, Nodes}
use Rattle.node_backend.specs.Numbers.{is_among}
use Rattle.node_backend.specs.Doubts.{Pair}
use Rattle.log_shelf.specs.Entries.{entries_of}
use Rattle.log_shelf.specs.Backends.{nodes_after, HoldsOrDoubts}
use Rattle.log_shelf.specs.Manifests.{live_of}
use Rattle.log_shelf.specs.Rooms.{Files, file_in}

-- the entries of a log; one that has no disk has none
abbrev pub entries_at : Files → ℕ → List (List ℕ)
entries_at files number = option_map_or entries_of (file_in files number) []

-- the logs that the manifest names as live
abbrev pub live_in : Files → List ℕ
live_in files = live_of (entries_at files 0)

-- no number is less than the one before it, from low on
abbrev pub Rises : ℕ → List ℕ → Type 0
Rises low [] = Unit {0}
Rises low (n ∷ numbers) = (low ≤ n) × Rises n numbers

-- what is held after the records of these logs, one log after another
abbrev pub recovered_after : (List ℕ → Bool) → Nodes → Files → List ℕ → Nodes
recovered_after is_record held files [] = held
recovered_after is_record held files (n ∷ numbers) =
    recovered_after is_record (nodes_after held (filter is_record (entries_at files n))) files numbers

-- the live logs' records, each hash once: the last in the greatest log that has it
pub record IsRecovered (is_record : List ℕ → Bool) (files : Files) (found : Nodes) : Type 0 where
  pub numbers : List ℕ
  pub rises : Rises 0 numbers
  pub live : (n : ℕ) → is_among numbers n ≡ is_among (live_in files) n
  pub nodes : found ≡ recovered_after is_record map.empty files numbers

-- What a stop leaves of a shelf: `live` and `undone` are its two lists, and each live backend has what it holds and its pair in doubt. No
-- log has the manifest's number. The manifest names each live log; each of these has a file that reads as told; a log that the manifest
-- names and that stands in neither list has no entry.
pub record IsStopped (live undone : List ℕ) (held : ℕ → Nodes) (doubt : ℕ → Option Pair) (files : Files) : Type 0 where
  pub numbered : (n : ℕ) → IsTrue (is_among live n) → 0 < n
  pub manifest : (n : ℕ) → IsTrue (is_among live n) → IsTrue (is_among (live_in files) n)
  pub logs : (n : ℕ) → IsTrue (is_among live n) → (file : List ℕ) × (file_in files n ≡ Some file) × HoldsOrDoubts file (held n) (doubt n)
  pub others : (n : ℕ) → 0 < n → IsTrue (is_among (live_in files) n) → is_among live n ≡ false → is_among undone n ≡ false
      → entries_at files n ≡ []

-- What a store keeps of its backends: one value for each hash that two share, no pair in doubt that would change what one of a lesser or
-- the same number holds, and each log whose discard failed below the live ones.
pub record IsKept (live undone : List ℕ) (held : ℕ → Nodes) (doubt : ℕ → Option Pair) : Type 0 where
  pub agree : (n m : ℕ) (h : Hash) (v w : Bytes) → IsTrue (is_among live n) → IsTrue (is_among live m) → map.get (held n) h ≡ Some v
      → map.get (held m) h ≡ Some w → v ≡ w
  pub allows : (n m : ℕ) (pair : Pair) (v : Bytes) → IsTrue (is_among live n) → IsTrue (is_among live m) → m ≤ n
      → doubt n ≡ Some pair → map.get (held m) pair.0 ≡ Some v → v ≡ pair.1
  pub undone_below : (k n : ℕ) → IsTrue (is_among undone k) → IsTrue (is_among live n) → k < n
