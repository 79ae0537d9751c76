-- What is seen through a link.
use Rattle.std.specs.Prelude.{◌≡◌, ℕ, ◌<◌, List, length, IsTrue, Result, Ok, Err}
use Rattle.std.specs.List.{slice_index_or}
use Rattle.nib_path.specs.Paths.{lies_under}
use Rattle.cow_map.specs.declared.fault.MapFault.{MapFault}
use Rattle.cow_map.specs.declared.fault.MapFault.TheVariants as causes
use Rattle.cow_map.specs.declared.link.Link.TheVariants.{Empty}
use Rattle.cow_map.specs.declared.look.Seen.{Seen}
use Rattle.cow_map.specs.declared.look.Seen.TheVariants as seen
use Rattle.cow_map.specs.Bodies.{IsBelow}
use Rattle.cow_map.specs.Trees.{Found, none, one, fork, lacks, breaks}

-- what the code says of what is found
abbrev pub SeenAs : Found → Seen → Type 0
SeenAs found seen.Nothing = found ≡ none
SeenAs found (seen.Leaf key bytes) = found ≡ one key bytes
SeenAs found (seen.Inner links) = found ≡ fork links

-- why one doesn't get further than this place
abbrev pub Stops : List ℕ → Found → MapFault → Type 0
Stops path found (causes.Absent h) = found ≡ lacks h
Stops path found (causes.Shape place rule) = (place ≡ path) × (found ≡ breaks rule)
Stops path found (causes.ZeroHash form) = ⊥
Stops path found causes.Fault = Unit {0}
Stops path found causes.Memory = Unit {0}

abbrev pub Looks : List ℕ → Found → Result Seen MapFault → Type 0
Looks path found (Ok s) = SeenAs found s
Looks path found (Err fault) = Stops path found fault

-- a leaf lies on the way to its key, and an inner node above the bottom, with links to the first n nodes
abbrev pub IsPlaced : ℕ → List ℕ → Seen → Type 0
IsPlaced n path seen.Nothing = Unit {0}
IsPlaced n path (seen.Leaf key bytes) = IsTrue (lies_under path key) × (0 < length path)
IsPlaced n path (seen.Inner links) = (length path < 64) × (length links ≡ 16) × ((b : ℕ) → IsBelow n (slice_index_or links b Empty))
