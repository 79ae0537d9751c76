-- Paths of shared nodes, and what their last node says.
use Rattle.std.specs.Prelude.{◌<◌, ℕ, List, [], ◌∷◌, map, Option, None}
use Rattle.std.specs.declared.sync.Arc.{Arc}
use Rattle.std.specs.declared.alloc.Global.{Global}
use Rattle.shamap_node.specs.declared.Node.{Node}
use Rattle.shamap_node.specs.Nodes.{held}
use Rattle.ledger_spec.specs.Bytes.{Bytes, Hash}
use Rattle.ledger_spec.specs.Forms.{Held, inner, leaf, header}
use Rattle.ledger_spec.specs.Reads as spec
use Rattle.ledger_spec.specs.Reads.{inner_hashes}
use Rattle.path_proof.specs.declared.Outcome.{Outcome}
use Rattle.path_proof.specs.declared.Outcome.TheVariants.{Nothing, Value}

-- what the nodes are
abbrev pub held_nodes : List (Arc Node Global) → List Held
held_nodes used = map (λ a. held a.value) used

-- the branches of the last node, where it is an inner one: a path goes on below it
abbrev pub last_branches : List Held → Option (List Hash)
last_branches [] = None
last_branches (n ∷ []) = inner_hashes n
last_branches (n ∷ m ∷ rest) = last_branches (m ∷ rest)

-- an inner node has levels below it
abbrev pub IsAbove : Held → ℕ → Type 0
IsAbove (inner hashes) depth = depth < 64
IsAbove (leaf kind key bytes) depth = Unit {0}
IsAbove (header bytes) depth = Unit {0}

-- the data of the last node, where it is a leaf
abbrev pub last_data : List Held → Bytes
last_data [] = []
last_data (leaf kind key bytes ∷ []) = bytes
last_data (n ∷ []) = []
last_data (n ∷ m ∷ rest) = last_data (m ∷ rest)

-- what a path's outcome says: nothing, or the last node's data
abbrev pub outcome_by : List Held → Outcome → spec.Outcome
outcome_by used Nothing = spec.nothing
outcome_by used Value = spec.value (last_data used)
