-- What a walk of two maps lists.
use Rattle.std.specs.Prelude.{◌≡◌, ℕ, zero, suc, ◌-◌, length, if◌then◌else◌, List, [], ◌∷◌, ◌++◌, Option, None, Some}
use Rattle.std.specs.List.{AllByRecursion, flat_map}
use Rattle.ledger_spec.specs.Bytes.{branches, same_bytes}
use Rattle.ledger_spec.specs.Forms.{Held, form_of}
use Rattle.map_changes.specs.Placed.{Placed}

-- a node at a path
abbrev pub placed_at : List ℕ → Held → Placed
placed_at path n = record { path = path; node = n }

-- the node stands at the path or below it
pub record Under (path : List ℕ) (p : Placed) : Type 0 where
  pub rest : List ℕ
  pub at : p.path ≡ path ++ rest

-- all of them do
abbrev pub AllUnder : List ℕ → List Placed → Type 0
AllUnder path nodes = AllByRecursion (Under path) nodes

-- the other map's node at a branch, if it has a node here
abbrev pub old_kid : (ℕ → ℕ → Option ℕ) → Option ℕ → ℕ → Option ℕ
old_kid kid None b = None
old_kid kid (Some i) b = kid i b

-- the node itself, unless the other map's node has its form
abbrev pub itself : (ℕ → Held) → List ℕ → ℕ → Option ℕ → List Placed
itself held path i None = placed_at path (held i) ∷ []
itself held path i (Some j) = if same_bytes (form_of (held i)) (form_of (held j)) then [] else placed_at path (held i) ∷ []

-- the nodes at and below a path, in pre-order, from what each node is and where its branches lead; there are so many
-- levels at and below it
unfoldable pub nodes_within : ℕ → (ℕ → Held) → (ℕ → ℕ → Option ℕ) → Option ℕ → List ℕ → List Placed
nodes_within zero held kid link path = []
nodes_within (suc levels) held kid None path = []
nodes_within (suc levels) held kid (Some i) path =
    placed_at path (held i) ∷ flat_map (λ b. nodes_within levels held kid (kid i b) (path ++ b ∷ [])) branches

-- the nodes at and below a path of at most 64 nibbles
abbrev pub shared_nodes : (ℕ → Held) → (ℕ → ℕ → Option ℕ) → Option ℕ → List ℕ → List Placed
shared_nodes held kid link path = nodes_within (65 - length path) held kid link path
