-- What a map is made of: a list of nodes, and a link to the top one.
use Rattle.std.specs.Prelude.{◌≡◌, ℕ, ◌<◌, List, length, Some}
use Rattle.std.specs.List.{slice_get, slice_index_or}
use Rattle.ledger_spec.specs.declared.Kind.{Kind}
use Rattle.ledger_spec.specs.Bytes.{Bytes, Hash}
use Rattle.ledger_spec.specs.Forms.{IsItem}
use Rattle.cow_map.specs.declared.link.Link.{Link}
use Rattle.cow_map.specs.declared.link.Link.TheVariants.{Empty, Unloaded, Own}

-- a leaf with its key and data, or an inner node with its sixteen links
pub data Body : Type 0 where
  leaf : Hash → Bytes → Body
  inner : List Link → Body

-- the nodes that a map and its snapshots have made so far, and where the top one stands
pub record CowTree : Type 0 where
  pub kind : Kind
  pub nodes : List Body
  pub top : Link

-- a link to one of the first n nodes, or to none of the list
abbrev pub IsBelow : ℕ → Link → Type 0
IsBelow n Empty = Unit {0}
IsBelow n (Unloaded h) = Unit {0}
IsBelow n (Own i) = i < n

-- a node whose links name nodes below the n-th alone
abbrev pub IsBody : ℕ → Body → Type 0
IsBody n (leaf key bytes) = IsItem key bytes
IsBody n (inner links) = (length links ≡ 16) × ((b : ℕ) → IsBelow n (slice_index_or links b Empty))

-- the links of each node name lower places
abbrev pub AreBodies : List Body → Type 0
AreBodies nodes = (i : ℕ) (body : Body) → slice_get nodes i ≡ Some body → IsBody i body
