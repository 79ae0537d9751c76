-- The places that a search has yet to look at, and what is found at them and below, whatever the store grows to.
use Rattle.std.specs.Prelude.{◌≡◌, ◌⊎◌, ℕ, ◌-◌, ◌<◌, ◌≤◌, List, [], ◌∷◌, ◌++◌, length, take, drop, reverse, map}
use Rattle.std.specs.Prelude.{Option, None, Some, if◌then◌else◌}
use Rattle.std.specs.Bool.{⊤}
use Rattle.std.specs.List.{flat_map, range_with_len, slice_index_or, AllByRecursion}
use Rattle.std.specs.declared.sync.Arc.{Arc}
use Rattle.std.specs.declared.alloc.Global.{Global}
use Rattle.ledger_spec.specs.declared.Kind.{Kind}
use Rattle.ledger_spec.specs.declared.Kind.TheVariants.{State, Tx, Set}
use Rattle.ledger_spec.specs.Header.{state_root_of, tx_root_of}
use Rattle.ledger_spec.specs.Spots.{header_in}
use Rattle.ledger_spec.specs.Bytes.{Bytes, Hash, Half, Lookup, zero_hash, is_zero}
use Rattle.ledger_spec.specs.Forms.{Held, inner}
use Rattle.ledger_spec.specs.Findings.{held_of, Finding, findings}
use Rattle.ledger_spec.proofs.shared.ReachLaws.{Grows}
use Rattle.shamap_node.specs.declared.Node.{Node}
use Rattle.shamap_node.specs.declared.Node.TheVariants as nodes
use Rattle.shamap_node.specs.Nodes.{held}
use Rattle.full_below.specs.declared.key.MarkKey.{MarkKey}
use Rattle.tree_laws.specs.Walks.{found_below, Meets}
use Rattle.missing_walk.specs.declared.todo.Todo.{Todo}
use Rattle.missing_walk.specs.declared.todo.Open.{Open}

-- a place with its hash and the inner node above it
pub record Pending : Type 0 where
  pub kind : Kind
  pub path : List ℕ
  pub hash : Hash
  pub parent : Option (List Hash)

-- the branches of an inner node
abbrev pub branches_in : Node → Option (List Hash)
branches_in (nodes.Inner i) = Some i.hashes
branches_in (nodes.Leaf l) = None

abbrev pub above : Option (Arc Node Global) → Option (List Hash)
above None = None
above (Some node) = branches_in node.value

-- a place by its key, below this inner node
abbrev pub placed : MarkKey → Option (List Hash) → Pending
placed at parent = record { kind = at.kind; path = at.id; hash = at.hash; parent = parent }

abbrev pub pending_of : Todo → Pending
pending_of t = placed t.at (above t.parent)

-- the places of a stack, the top first
abbrev pub stacked : List Todo → List Pending
stacked ts = reverse (map pending_of ts)

abbrev pub noted_places : List Todo → List Pending
noted_places ts = map pending_of ts

-- what is found at a place and below it
abbrev pub found_at : Half → Lookup → Pending → List Finding
found_at half nodes p = found_below half nodes p.kind (64 - length p.path) p.parent p.path p.hash

-- what is found at places and below them, one after the other
abbrev pub found_all : Half → Lookup → List Pending → List Finding
found_all half nodes ps = flat_map (found_at half nodes) ps

-- whatever is added to the store, what is found at the place and below it is what is found at these
pub record FoundAs (half : Half) (nodes : Lookup) (p : Pending) (ks : List Pending) : Type 0 where
  pub same : (more : Lookup) → Grows nodes more → found_at half more p ≡ found_all half more ks

-- two paths part at a nibble, so neither is the other or begins it
pub record Part (p q : List ℕ) : Type 0 where
  pub front : List ℕ
  pub a : ℕ
  pub b : ℕ
  pub rest : List ℕ
  pub other : List ℕ
  pub differ : a ≡ b → ⊥
  pub first : p ≡ front ++ a ∷ rest
  pub second : q ≡ front ++ b ∷ other

-- neither place is the other or stands below it
abbrev pub Apart : Pending → Pending → Type 0
Apart p q = (p.kind ≡ q.kind → ⊥) ⊎ Part p.path q.path

-- no place stands there twice, and none below another
abbrev pub AreApart : List Pending → Type 0
AreApart [] = ⊤
AreApart (p ∷ ps) = AllByRecursion (Apart p) ps × AreApart ps

-- the root of a kind of map that a header names
abbrev pub root_of : Kind → Bytes → Hash
root_of State bytes = state_root_of bytes
root_of Tx bytes = tx_root_of bytes
root_of Set bytes = zero_hash

-- the walk of the ledger meets the place, with this hash, below this inner node
pub record IsMet (half : Half) (nodes : Lookup) (target : Hash) (p : Pending) : Type 0 where
  pub bytes : Bytes
  pub header_there : Some bytes ≡ header_in nodes target
  pub meets : Meets half nodes p.kind (root_of p.kind bytes) p.parent p.path p.hash

-- the walk of the ledger meets these places, each once and none below another; and whatever is added to the store, what is found of the
-- ledger is what is found at them and below
pub record Covers (half : Half) (nodes : Lookup) (target : Hash) (ps : List Pending) : Type 0 where
  pub met : AllByRecursion (IsMet half nodes target) ps
  pub apart : AreApart ps
  pub same : (more : Lookup) → Grows nodes more → findings half more target ≡ found_all half more ps

-- these places stand below one place, apart from each other
pub record AreBelow (half : Half) (nodes : Lookup) (target : Hash) (p : Pending) (ks : List Pending) : Type 0 where
  pub met : IsMet half nodes target p → AllByRecursion (IsMet half nodes target) ks
  pub apart : AreApart ks
  pub first : (q : Pending) → Apart p q → AllByRecursion (λ k. Apart k q) ks
  pub second : (q : Pending) → Apart q p → AllByRecursion (Apart q) ks

-- the place of a branch, unless it is empty
abbrev pub kid : Kind → List ℕ → List Hash → ℕ → List Pending
kid kind path hashes b =
    let h = slice_index_or hashes b zero_hash in
    if is_zero h then [] else record { kind = kind; path = path ++ b ∷ []; hash = h; parent = Some hashes } ∷ []

-- the places of so many branches from one on
unfoldable pub kids_from : Kind → List ℕ → List Hash → ℕ → ℕ → List Pending
kids_from kind path hashes b n = flat_map (kid kind path hashes) (range_with_len b n)

-- the places below a node
abbrev pub kids_of : Kind → List ℕ → Node → List Pending
kids_of kind path (nodes.Inner i) = kids_from kind path i.hashes 0 16
kids_of kind path (nodes.Leaf l) = []

-- a node is held under the hash
pub record IsHeldAt (half : Half) (nodes : Lookup) (h : Hash) (n : Held) : Type 0 where
  pub form : Bytes
  pub stored : nodes h ≡ Some form
  pub holds : held_of half form ≡ Some n

-- an inner node is held under the hash
pub record IsInnerAt (half : Half) (nodes : Lookup) (h : Hash) : Type 0 where
  pub hashes : List Hash
  pub there : IsHeldAt half nodes h (inner hashes)

-- an inner node is held under the hash, and nothing is found at the place or below it
pub record IsFull (half : Half) (nodes : Lookup) (key : MarkKey) : Type 0 where
  pub inner_there : IsInnerAt half nodes key.hash
  pub empty : found_at half nodes (placed key None) ≡ []

-- a node is cached under a hash under which it is held
abbrev pub IsCachedTrue : Half → Lookup → Hash → Node → Type 0
IsCachedTrue half nodes h n = IsHeldAt half nodes h (held n)

-- an inner node that a search has gone below is the one that is held under its hash
pub record IsOpen (half : Half) (nodes : Lookup) (o : Open) : Type 0 where
  pub inner_there : IsInnerAt half nodes o.at.hash
  pub held_there : IsHeldAt half nodes o.at.hash (held o.node.value)

-- the inner nodes that a search has gone below, the last first: of each one all that is found at it is found at the places above its
-- height in the stack, the nodes that were gone below later standing for those above theirs
abbrev pub Within : Half → Lookup → List Open → List Pending → Type 0
Within half nodes [] ps = ⊤
Within half nodes (o ∷ os) ps =
    (o.height < length ps) × IsOpen half nodes o × FoundAs half nodes (placed o.at None) (take (length ps - o.height) ps)
    × Within half nodes os (placed o.at None ∷ drop (length ps - o.height) ps)

-- the same, where perhaps no place is left above the last one's height
abbrev pub Around : Half → Lookup → List Open → List Pending → Type 0
Around half nodes [] ps = ⊤
Around half nodes (o ∷ os) ps =
    (o.height ≤ length ps) × IsOpen half nodes o × FoundAs half nodes (placed o.at None) (take (length ps - o.height) ps)
    × Within half nodes os (placed o.at None ∷ drop (length ps - o.height) ps)
