-- Maps that are made of items, and of parts.
use Rattle.std.specs.Prelude.{◌≡◌, ℕ, ◌<◌, ◌+◌, List, [], ◌∷◌, map, Option, None, Some, IsTrue}
use Rattle.std.specs.List.{slice_get, slice_index_or, AllByRecursion}
use Rattle.nib_path.specs.Paths.{lies_under}
use Rattle.ledger_spec.specs.declared.Kind.{Kind}
use Rattle.ledger_spec.specs.Bytes.{Half, Items, Lookup}
use Rattle.ledger_spec.specs.Tree.{Entry}
use Rattle.shamap_node.specs.declared.parts.Item.{Item}
use Rattle.cow_map.specs.declared.link.Link.{Link}
use Rattle.cow_map.specs.declared.link.Link.TheVariants.{Empty, Unloaded, Own}
use Rattle.cow_map.specs.Bodies.{Body, leaf, inner, CowTree}
use Rattle.cow_map.specs.Trees.{StandsFor}

-- an item's key and data
abbrev pub entry_of : Item → Entry
entry_of item = (item.key, item.value)

-- the items' keys and data
abbrev pub entries_of : List Item → List Entry
entries_of items = map entry_of items

-- a source that holds nothing
abbrev pub nothing_held : Lookup
nothing_held h = None

-- a link to the same node of a list that stands behind n others
abbrev pub moved_link : ℕ → Link → Link
moved_link n Empty = Empty
moved_link n (Unloaded h) = Unloaded h
moved_link n (Own i) = Own (i + n)

-- a node of such a list
abbrev pub moved_body : ℕ → Body → Body
moved_body n (leaf key bytes) = leaf key bytes
moved_body n (inner links) = inner (map (moved_link n) links)

-- the link of a branch of an inner node
abbrev pub branch_in : ℕ → Option Body → Link
branch_in b None = Empty
branch_in b (Some (leaf key bytes)) = Empty
branch_in b (Some (inner links)) = slice_index_or links b Empty

-- the link of a branch of the top node, where the map has made that
abbrev pub branch_at : ℕ → List Body → Link → Link
branch_at b nodes Empty = Empty
branch_at b nodes (Unloaded h) = Empty
branch_at b nodes (Own i) = branch_in b (slice_get nodes i)

-- maps of a kind that stand for these items and leave nothing to a source; the keys of the items of number b begin with the nibble b
pub record ArePartsOf (kind : Kind) (parts : List CowTree) (kids : ℕ → Items) : Type 0 where
  pub kinds : (b : ℕ) (m : CowTree) → slice_get parts b ≡ Some m → m.kind ≡ kind
  pub each : (b : ℕ) (m : CowTree) → slice_get parts b ≡ Some m → (half : Half) → StandsFor half nothing_held m (kids b)
  pub first : (b : ℕ) → b < 16 → AllByRecursion (λ (e : Entry). IsTrue (lies_under (b ∷ []) e.0)) (kids b)
