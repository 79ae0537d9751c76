-- What searches share, and when it is true of a store.
use Rattle.std.specs.Prelude.{◌≡◌, ◌+◌, ℕ, [], length, None, IfSome, slice_set}
use Rattle.ledger_spec.specs.Bytes.{Half, Lookup}
use Rattle.full_below.specs.Marking.{AreMarked}
use Rattle.tree_cache.specs.Caching.{AreCached}
use Rattle.missing_walk.specs.Pending.{IsFull, IsCachedTrue}
use Rattle.missing_walk.specs.Searching.{Rule}
use Rattle.ledger_searches.specs.declared.searches.Searches.{Searches}
use Rattle.ledger_machine.specs.Limits.{actors}
use Rattle.ledger_searches.specs.Hunting.{hunt_of}

-- the most marks, and the most nodes of the cache
abbrev pub most_marks : ℕ
most_marks = 65536

abbrev pub most_cached : ℕ
most_cached = 16384

-- marks and cache are of one generation, and there is room for as many marks and for a search of each actor
pub record IsPaired (x : Searches) : Type 0 where
  pub one : x.cache.generation ≡ x.marks.generation
  pub room : x.marks.entries.cap ≡ most_marks
  pub slots : length x.hunts.items ≡ actors

-- The rule: an inner node is held where a key is marked, and nothing is found there or below; each cached node is held under its hash; and
-- what is found of a ledger whose search was begun in this generation is found at the places that it has yet to look at.
pub record AreTrueOf (half : Half) (nodes : Lookup) (x : Searches) : Type 0 where
  pub marks : AreMarked (IsFull half nodes) x.marks
  pub cache : AreCached (IsCachedTrue half nodes) x.cache
  pub hunts : (a : ℕ) → IfSome (hunt_of x.hunts.items a) (λ h. Rule half nodes h.search x.cache x.marks)

-- nothing is marked or cached, and no search was begun
pub record IsEmpty (x : Searches) : Type 0 where
  pub marks : x.marks.entries.entries ≡ []
  pub cache : x.cache.entries.entries ≡ []
  pub hunts : (a : ℕ) → hunt_of x.hunts.items a ≡ None

-- the next generation has begun, with nothing marked or cached, and the searches are as they were
pub record IsTurned (x x' : Searches) : Type 0 where
  pub paired : IsPaired x'
  pub marks : x'.marks.entries.entries ≡ []
  pub cache : x'.cache.entries.entries ≡ []
  pub generation : x'.marks.generation ≡ x.marks.generation + 1
  pub hunts : x'.hunts.items ≡ x.hunts.items

-- the search of this actor is another one, and those of the others are as they were
abbrev pub LeavesOthers : ℕ → Searches → Searches → Type 0
LeavesOthers a x x' = x'.hunts.items ≡ slice_set x.hunts.items a (hunt_of x'.hunts.items a)

-- no search of this actor is kept, and all else is as it was
pub record Forgets (a : ℕ) (x x' : Searches) : Type 0 where
  pub hunts : x'.hunts.items ≡ slice_set x.hunts.items a None
  pub marks : x'.marks ≡ x.marks
  pub cache : x'.cache ≡ x.cache
