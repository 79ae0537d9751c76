-- The hashes that a map leaves to its source.
use Rattle.std.specs.Prelude.{◌≡◌, ℕ, zero, suc, ◌<◌, List, [], ◌∷◌, ◌++◌, Option, None, Some}
use Rattle.std.specs.List.{slice_get, slice_index_or, flat_map, Contains}
use Rattle.ledger_spec.specs.Bytes.{Hash, Half, Lookup, Items}
use Rattle.ledger_spec.specs.Reach.{Reach, Stored}
use Rattle.tree_laws.specs.Walks.{found_below}
use Rattle.cow_map.specs.declared.link.Link.{Link}
use Rattle.cow_map.specs.declared.link.Link.TheVariants.{Empty, Unloaded, Own}
use Rattle.cow_map.specs.Bodies.{Body, leaf, inner, CowTree}
use Rattle.cow_map.specs.Trees.{StandsFor}
use Rattle.cow_map.specs.Gathered.{nothing_held}

-- the unloaded hashes below a node
abbrev pub unloaded_of : (Link → List Hash) → Option Body → List Hash
unloaded_of below None = []
unloaded_of below (Some (leaf key bytes)) = []
unloaded_of below (Some (inner links)) = flat_map below links

abbrev pub unloaded_by : List Body → (Link → List Hash) → Link → List Hash
unloaded_by nodes below Empty = []
unloaded_by nodes below (Unloaded h) = h ∷ []
unloaded_by nodes below (Own i) = unloaded_of below (slice_get nodes i)

-- the unloaded hashes that a link reaches, with `left` levels below it
unfoldable pub unloaded_at : List Body → ℕ → Link → List Hash
unloaded_at nodes zero link = unloaded_by nodes (λ l. []) link
unloaded_at nodes (suc left) link = unloaded_by nodes (unloaded_at nodes left) link

-- those that a map's top reaches
abbrev pub unloaded : CowTree → List Hash
unloaded m = unloaded_at m.nodes 64 m.top

-- what a map stands for is what it stands for over any source that has the same under all that its unloaded hashes reach
abbrev pub StaysOverReach : Type 0
StaysOverReach = (half : Half) (stored other : Lookup) (m : CowTree) (items : Items)
    → ((h : Hash) → Reach stored (unloaded m) h → other h ≡ stored h) → StandsFor half stored m items → StandsFor half other m items

-- what the new map leaves to the source the old one did too, or it is reached from what the old one did, where that stood for something
abbrev pub KeepsReach : Half → Lookup → CowTree → CowTree → Type 0
KeepsReach half stored old new =
    (items : Items) → StandsFor half stored old items → (h : Hash) → Contains (unloaded new) h → Reach stored (unloaded old) h

-- what is said of each branch of a node
abbrev pub EachIn : (ℕ → Link → Type 0) → Option Body → Type 0
EachIn below None = Unit {0}
EachIn below (Some (leaf key bytes)) = Unit {0}
EachIn below (Some (inner links)) = (b : ℕ) → b < 16 → below b (slice_index_or links b Empty)

abbrev pub EachBy : List Body → (ℕ → Link → Type 0) → (Hash → Type 0) → Link → Type 0
EachBy nodes below says Empty = Unit {0}
EachBy nodes below says (Unloaded h) = says h
EachBy nodes below says (Own i) = EachIn below (slice_get nodes i)

-- this is so of each hash that a link at a path leaves to the source, with the levels below it and its own path
unfoldable pub EachLeft : (ℕ → List ℕ → Hash → Type 0) → List Body → ℕ → List ℕ → Link → Type 0
EachLeft says nodes zero path link = EachBy nodes (λ b l. Unit {0}) (says 0 path) link
EachLeft says nodes (suc left) path link =
    EachBy nodes (λ b l. EachLeft says nodes left (path ++ b ∷ []) l) (says (suc left) path) link

-- nothing is missing or broken in the trees that a map leaves to its source, each at its place
abbrev pub LeavesWhole : Half → Lookup → CowTree → Type 0
LeavesWhole half stored m = EachLeft (λ left path h. found_below half stored m.kind left None path h ≡ []) m.nodes 64 [] m.top

-- what a map that stands for something leaves to its source is held there, and whole
abbrev pub IsLeftWhole : Type 0
IsLeftWhole = (half : Half) (stored : Lookup) (m : CowTree) (items : Items) → StandsFor half stored m items
    → LeavesWhole half stored m × ((h : Hash) → Contains (unloaded m) h → Stored stored h)

-- a map that stands for something over no source leaves nothing to one: it stands for the same over each, whatever the half
abbrev pub StandsAnywhere : Type 0
StandsAnywhere = (half : Half) (m : CowTree) (items : Items) → StandsFor half nothing_held m items
    → (unloaded m ≡ []) × ((other : Half) (stored : Lookup) → StandsFor other stored m items)
