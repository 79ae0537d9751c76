-- What a backend's log holds, and what a stop may leave of it.
use Rattle.std.specs.Prelude.{◌≡◌, ◌⊎◌, ℕ, Bool, List, [], ◌∷◌, take, drop, Option, None, Some}
use Rattle.std.specs.Option.{option_map}
use Rattle.std.specs.FinMap as map
use Rattle.ledger_spec.specs.Bytes.{Nodes}
use Rattle.node_backend.specs.Doubts.{Pair}
use Rattle.log_shelf.specs.Entries.{entries_of}
use Rattle.log_shelf.specs.Logs.{told_entries, doubted}

-- an entry of a backend: its first 32 bytes are the hash, the others the value
abbrev pub pair_of : List ℕ → Pair
pair_of entry = (take 32 entry, drop 32 entry)

-- what is held after these entries: of those with one hash the last counts
abbrev pub nodes_after : Nodes → List (List ℕ) → Nodes
nodes_after held [] = held
nodes_after held (entry ∷ entries) = nodes_after (map.insert held (take 32 entry) (drop 32 entry)) entries

abbrev pub nodes_of : List (List ℕ) → Nodes
nodes_of entries = nodes_after map.empty entries

-- what a log holds whose gate is at `tail`
abbrev pub held_in : ℕ → List ℕ → Nodes
held_in tail seen = nodes_of (told_entries tail seen)

-- the pair in doubt, if there is one
abbrev pub pair_in_doubt : ℕ → Bool → List ℕ → Option Pair
pair_in_doubt tail doubt seen = option_map pair_of (doubted tail doubt seen)

-- with the pair in doubt set
abbrev pub with_pair : Nodes → Option Pair → Nodes
with_pair held None = held
with_pair held (Some pair) = map.insert held pair.0 pair.1

-- a file reads as this map, or as it is with the pair in doubt set
abbrev pub HoldsOrDoubts : List ℕ → Nodes → Option Pair → Type 0
HoldsOrDoubts file held doubt = (nodes_of (entries_of file) ≡ held) ⊎ (nodes_of (entries_of file) ≡ with_pair held doubt)
