-- A map of which versions are kept, and the hashes of its nodes.
use Rattle.std.specs.Prelude.{◌≡◌, ◌≢◌, ℕ, zero, suc, ◌<◌, List, [], ◌∷◌, map, length, Option, None, Some}
use Rattle.std.specs.List.{flat_map, slice_get, slice_index_or}
use Rattle.ledger_spec.specs.declared.Kind.{Kind}
use Rattle.ledger_spec.specs.Bytes.{Half, Hash, Items}
use Rattle.ledger_spec.specs.Forms.{Held}
use Rattle.ledger_spec.specs.Forms as held
use Rattle.ledger_spec.specs.Tree.{Entry}
use Rattle.cow_map.specs.declared.link.Link.{Link}
use Rattle.cow_map.specs.declared.link.Link.TheVariants.{Empty, Unloaded, Own}
use Rattle.cow_map.specs.Bodies.{Body, leaf, inner, CowTree, IsBelow}
use Rattle.cow_map.specs.Seals.{hash_at}
use Rattle.cow_map.specs.Gathered.{nothing_held, branch_in}
use Rattle.cow_map.specs.Trees.{StandsFor}
use Rattle.map_changes.specs.Placed.{Placed, nodes_of}

-- the place in the map's list of nodes to which a link leads
abbrev pub place_of : Link → Option ℕ
place_of Empty = None
place_of (Unloaded h) = None
place_of (Own i) = Some i

-- so many levels of nodes hold all that a link reaches, since links name lower places
abbrev pub levels_of : Link → ℕ
levels_of Empty = zero
levels_of (Unloaded h) = zero
levels_of (Own i) = suc i

-- the hash that a link stands for
unfoldable pub link_hash : Half → Kind → List Body → Link → Hash
link_hash half kind nodes link = hash_at half kind nodes (levels_of link) link

-- a node, with the hashes of its links; where there is none, a header without bytes
abbrev pub node_of : Kind → (Link → Hash) → Option Body → Held
node_of kind hash None = held.header []
node_of kind hash (Some (leaf key bytes)) = held.leaf kind key bytes
node_of kind hash (Some (inner links)) = held.inner (map hash links)

-- the node at a place of the list
abbrev pub node_at : Half → Kind → List Body → ℕ → Held
node_at half kind nodes i = node_of kind (link_hash half kind nodes) (slice_get nodes i)

-- the place to which a branch of it leads
abbrev pub kid_at : List Body → ℕ → ℕ → Option ℕ
kid_at nodes i b = place_of (branch_in b (slice_get nodes i))

-- the hash at a place is known
abbrev pub IsKnown : List (Option Hash) → ℕ → Type 0
IsKnown hashes i = (h : Hash) × (slice_get hashes i ≡ Some (Some h))

-- the hashes at two places are known, and two
pub record HaveTwoHashes (hashes : List (Option Hash)) (i j : ℕ) : Type 0 where
  pub own : IsKnown hashes i
  pub others : IsKnown hashes j
  pub apart : own.0 ≢ others.0

-- so are those to which the branches of the node at a place lead
abbrev pub KnowsKids : List Body → List (Option Hash) → ℕ → Type 0
KnowsKids nodes hashes i = (b j : ℕ) → kid_at nodes i b ≡ Some j → IsKnown hashes j

-- where a hash is known, those below it are
pub record AreClosed (nodes : List Body) (hashes : List (Option Hash)) : Type 0 where
  pub kids : (i : ℕ) (h : Hash) → slice_get hashes i ≡ Some (Some h) → KnowsKids nodes hashes i

-- so is each that the link reaches in so many steps
unfoldable pub KnowsAll : List Body → List (Option Hash) → ℕ → Link → Type 0
KnowsAll nodes hashes zero link = Unit {0}
KnowsAll nodes hashes (suc left) link =
    (i : ℕ) → place_of link ≡ Some i → IsKnown hashes i × ((b : ℕ) → KnowsAll nodes hashes left (branch_in b (slice_get nodes i)))

-- the keys and data at and below a node
abbrev pub entries_in : (Link → List Entry) → Option Body → List Entry
entries_in below None = []
entries_in below (Some (leaf key bytes)) = (key, bytes) ∷ []
entries_in below (Some (inner links)) = flat_map below links

abbrev pub entries_by : List Body → (Link → List Entry) → Link → List Entry
entries_by nodes below Empty = []
entries_by nodes below (Unloaded h) = []
entries_by nodes below (Own i) = entries_in below (slice_get nodes i)

-- the keys and data that a link reaches, with `left` levels below it
unfoldable pub entries_at : List Body → ℕ → Link → List Entry
entries_at nodes zero link = entries_by nodes (λ l. []) link
entries_at nodes (suc left) link = entries_by nodes (entries_at nodes left) link

-- the finite map below a link
abbrev pub items_at : List Body → Link → Items
items_at nodes link = entries_at nodes 64 link

-- each hash that is known is that of the node at its place
pub record AreHashes (half : Half) (kind : Kind) (nodes : List Body) (hashes : List (Option Hash)) : Type 0 where
  pub within : (i : ℕ) (h : Hash) → slice_get hashes i ≡ Some (Some h) → i < length nodes
  pub each : (i : ℕ) (h : Hash) → slice_get hashes i ≡ Some (Some h) → h ≡ link_hash half kind nodes (Own i)

-- a map, the links to the nodes on top of its versions, and hashes
pub record Tracking : Type 0 where
  pub tree : CowTree
  pub tops : List Link
  pub hashes : List (Option Hash)

-- the map with another node on top
abbrev pub under : CowTree → Link → CowTree
under tree top = record { kind = tree.kind; nodes = tree.nodes; top = top }

-- the kind of its leaves
unfoldable pub leaves_in : Tracking → Kind
leaves_in t = t.tree.kind

-- the finite map that it is
unfoldable pub items_in : Tracking → Items
items_in t = items_at t.tree.nodes t.tree.top

-- the finite maps that its versions are
unfoldable pub versions_in : Tracking → List Items
versions_in t = map (items_at t.tree.nodes) t.tops

-- version n; behind the last one there is none, and the empty map stands for it
abbrev pub version_at : Tracking → ℕ → Items
version_at t n = slice_index_or (versions_in t) n []

-- the nodes of version n
abbrev pub nodes_at : Half → Tracking → ℕ → List Placed
nodes_at half t n = nodes_of half (leaves_in t) (version_at t n)

-- with this node on top it leaves nothing to a source
pub record IsVersion (half : Half) (tree : CowTree) (top : Link) : Type 0 where
  pub stands : StandsFor half nothing_held (under tree top) (items_at tree.nodes top)
  pub below : IsBelow (length tree.nodes) top

-- what it keeps: it leaves nothing to a source, now and in each version, and its hashes are right, and known with all below them
pub record Keeps (half : Half) (t : Tracking) : Type 0 where
  pub now : StandsFor half nothing_held t.tree (items_at t.tree.nodes t.tree.top)
  pub each : (n : ℕ) → IsVersion half t.tree (slice_index_or t.tops n Empty)
  pub hashes : AreHashes half t.tree.kind t.tree.nodes t.hashes
  pub closed : AreClosed t.tree.nodes t.hashes
