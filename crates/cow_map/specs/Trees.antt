-- The finite map that a map of links stands for, together with what its source holds.
use Rattle.std.specs.Prelude.{◌≡◌, ℕ, zero, suc, ◌<◌, ◌≤◌, ◌==◌, not, if◌then◌else◌, IsTrue, Option, None, Some}
use Rattle.std.specs.Prelude.{List, [], ◌∷◌, ◌++◌, length, map}
use Rattle.std.specs.List.{flat_map, slice_get, slice_index_or}
use Rattle.nib_path.specs.Paths.{lies_under}
use Rattle.ledger_spec.specs.declared.Kind.{Kind}
use Rattle.ledger_spec.specs.declared.ShapeFault.{ShapeFault}
use Rattle.ledger_spec.specs.declared.ShapeFault.TheVariants.{LeafElsewhere, InnerAtBottom, LeafAtRoot, Foreign}
use Rattle.ledger_spec.specs.Bytes.{Bytes, Hash, Half, Lookup, Items, is_zero, branches}
use Rattle.ledger_spec.specs.Forms.{Held, IsItem}
use Rattle.ledger_spec.specs.Forms as held
use Rattle.ledger_spec.specs.Rules.{fault_of}
use Rattle.ledger_spec.specs.Findings.{Sight, sight_of, missing, broken, sound}
use Rattle.ledger_spec.specs.Tree.{Entry}
use Rattle.cow_map.specs.declared.link.Link.{Link}
use Rattle.cow_map.specs.declared.link.Link.TheVariants.{Empty, Unloaded, Own}
use Rattle.cow_map.specs.Bodies.{Body, leaf, inner, CowTree}

-- what a link leads to at its place: nothing, an item, an inner node with its links, what the source lacks, or what breaks a rule of shape
pub data Found : Type 0 where
  none : Found
  one : Hash → Bytes → Found
  fork : List Link → Found
  lacks : Hash → Found
  breaks : ShapeFault → Found

-- the link to a node of the source; the zero hash is an empty branch
abbrev pub link_to : Hash → Link
link_to h = if is_zero h then Empty else Unloaded h

abbrev pub found_held : Held → Found
found_held (held.inner hashes) = fork (map link_to hashes)
found_held (held.leaf kind key bytes) = one key bytes
found_held (held.header bytes) = breaks Foreign

-- what is seen of the source at a hash
abbrev pub found_seen : Hash → Sight → Found
found_seen h missing = lacks h
found_seen h (broken fault) = breaks fault
found_seen h (sound n) = found_held n

-- a node of the map's own
abbrev pub found_body : List ℕ → Option Body → Found
found_body path None = none
found_body path (Some (leaf key bytes)) =
    if length path == 0 then breaks LeafAtRoot else if not (lies_under path key) then breaks (LeafElsewhere key) else one key bytes
found_body path (Some (inner links)) = if length path == 64 then breaks InnerAtBottom else fork links

-- what a link leads to, at a path of a map of this kind, over what the source holds; the rule of the lone leaf is the parent's
abbrev pub found_at : Half → Lookup → Kind → List Body → List ℕ → Link → Found
found_at half stored kind nodes path Empty = none
found_at half stored kind nodes path (Own i) = found_body path (slice_get nodes i)
found_at half stored kind nodes path (Unloaded h) = found_seen h (sight_of half (λ n. fault_of n None kind path) (stored h))

-- the fewest items below an inner node: one below the root, else two
abbrev pub fewest : List ℕ → ℕ
fewest [] = 1
fewest (n ∷ path) = 2

-- an inner node's branches hold these entries between them, in their order, and there are enough for an inner node to stand here;
-- `below` says of a branch what it holds
pub record Forks (below : ℕ → Link → List Entry → Type 0) (path : List ℕ) (links : List Link) (items : List Entry) : Type 0 where
  pub width : length links ≡ 16
  pub kids : ℕ → List Entry
  pub joined : items ≡ flat_map kids branches
  pub each : (b : ℕ) → b < 16 → below b (slice_index_or links b Empty) (kids b)
  pub enough : fewest path ≤ length items

-- the one entry is that of an item on whose way the path lies
pub record IsOne (path : List ℕ) (key : Hash) (bytes : Bytes) (items : List Entry) : Type 0 where
  pub item : IsItem key bytes
  pub under : IsTrue (lies_under path key)
  pub alone : items ≡ (key, bytes) ∷ []

-- what is found holds these entries
abbrev pub Holds : (ℕ → Link → List Entry → Type 0) → List ℕ → Found → List Entry → Type 0
Holds below path none items = items ≡ []
Holds below path (one key bytes) items = IsOne path key bytes items
Holds below path (fork links) items = Forks below path links items
Holds below path (lacks h) items = ⊥
Holds below path (breaks fault) items = ⊥

-- the link at a path, with `left` levels below it, stands for these entries: they are what lies under the path, all that it leads to is
-- own or held by the source, and an inner node stands just where it belongs
unfoldable pub StandsAt : Half → Lookup → Kind → List Body → ℕ → List ℕ → Link → List Entry → Type 0
StandsAt half stored kind nodes zero path link items =
    Holds (λ b l es. ⊥) path (found_at half stored kind nodes path link) items
StandsAt half stored kind nodes (suc left) path link items =
    Holds (λ b l es. StandsAt half stored kind nodes left (path ++ b ∷ []) l es) path (found_at half stored kind nodes path link) items

-- the map stands for this finite map, over what its source holds
abbrev pub StandsFor : Half → Lookup → CowTree → Items → Type 0
StandsFor half stored m items = StandsAt half stored m.kind m.nodes 64 [] m.top items
