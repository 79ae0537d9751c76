-- What a search sees at a place, and what looking leaves of the marks and the cache.
use Rattle.std.specs.Prelude.{◌≡◌, ℕ, ◌==◌, ◌⊎◌, Bool, true, false, List, [], ◌∷◌, Contains, Some}
use Rattle.std.specs.Bool.{⊤}
use Rattle.std.specs.FinMap as map
use Rattle.std.specs.declared.sync.Arc.{Arc}
use Rattle.std.specs.declared.alloc.Global.{Global}
use Rattle.ledger_spec.specs.declared.Place.TheVariants.{Node as NodePlace}
use Rattle.ledger_spec.specs.Bytes.{Hash, Half, Lookup}
use Rattle.ledger_spec.specs.Forms.{inner}
use Rattle.ledger_spec.specs.Findings.{Sight, missing, broken, sound, lacks, breaks}
use Rattle.ledger_spec.specs.Own.{own_forms}
use Rattle.tree_laws.specs.Walks.{at_place}
use Rattle.shamap_node.specs.declared.Node.{Node}
use Rattle.shamap_node.specs.declared.Node.TheVariants as nodes
use Rattle.rotating_store.specs.Stores.{Store, nodes_of}
use Rattle.rotating_store.specs.Reading.{IsReadable}
use Rattle.full_below.specs.declared.key.MarkKey.{MarkKey}
use Rattle.full_below.specs.declared.marks.Marks.{Marks}
use Rattle.tree_cache.specs.declared.cache.TreeCache.{TreeCache}
use Rattle.tree_cache.specs.Caching.{after_put, AreCached}
use Rattle.missing_walk.specs.declared.sight.View.{View}
use Rattle.missing_walk.specs.declared.sight.View.TheVariants as view
use Rattle.missing_walk.specs.Sees.{is_sound_leaf}
use Rattle.missing_walk.specs.Pending.{Pending, branches_in, found_at, FoundAs, kids_of, IsInnerAt}

-- the store tells what it holds, its notes are true, and these are the forms that stand in it under their own hashes
pub record Tells (tells : Bool) (half : Half) (s : Store) (nodes : Lookup) : Type 0 where
  pub readable : IsReadable tells half s
  pub same : own_forms half (map.get (nodes_of s)) ≡ nodes

abbrev pub is_inner_node : Node → Bool
is_inner_node (nodes.Inner i) = true
is_inner_node (nodes.Leaf l) = false

-- an inner node belongs there
pub record IsSoundInner (node : Node) (s : Sight) : Type 0 where
  pub hashes : List Hash
  pub inner_node : branches_in node ≡ Some hashes
  pub seen : s ≡ sound (inner hashes)

-- what the code says of a sight
abbrev pub ShowsAs : View → Sight → Type 0
ShowsAs view.Missing s = s ≡ missing
ShowsAs (view.Broken fault) s = s ≡ broken fault
ShowsAs (view.Below node) s = IsSoundInner node.value s
ShowsAs view.Nothing s = is_sound_leaf s ≡ true

-- what stands for a place that has an inner node to go below
pub record GoesBelow (half : Half) (nodes : Lookup) (p : Pending) (node : Node) : Type 0 where
  pub inner_there : IsInnerAt half nodes p.hash
  pub found : FoundAs half nodes p (kids_of p.kind p.path node)
  pub seen : IsSoundInner node (at_place half nodes p.kind p.parent p.path p.hash)

-- what is found at the place, and below it where nothing is to be looked at there
abbrev pub Views : Half → Lookup → Pending → View → Type 0
Views half nodes p view.Missing = found_at half nodes p ≡ lacks (NodePlace p.kind p.path) ∷ []
Views half nodes p (view.Broken fault) = found_at half nodes p ≡ breaks (NodePlace p.kind p.path) fault ∷ []
Views half nodes p (view.Below node) = GoesBelow half nodes p node.value
Views half nodes p view.Nothing = FoundAs half nodes p []

-- an inner node to go below has levels below it
abbrev pub HasLevels : ℕ → View → Type 0
HasLevels depth (view.Below node) = (depth == 64) ≡ false
HasLevels depth _ = ⊤

-- no key is marked anew, in the same generation
pub record KeepsMarks (m m' : Marks) : Type 0 where
  pub fewer : (e : MarkKey × ℕ) → Contains m'.entries.entries e → Contains m.entries.entries e
  pub generation : m'.generation ≡ m.generation
  pub room : m'.entries.cap ≡ m.entries.cap

-- what holds of each entry still does, in the same generation
pub record KeepsCache (P : Hash → Node → Type 0) (c c' : TreeCache) : Type 0 where
  pub entries : AreCached P c → AreCached P c'

-- as before, or with this node put under the hash
abbrev pub MayPut : TreeCache → Hash → Node → TreeCache → Type 0
MayPut c h n c' = (c' ≡ c) ⊎ ((node : Arc Node Global) × (node.value ≡ n) × (c' ≡ after_put c h node))
