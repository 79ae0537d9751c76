-- What a search leaves of what it uses: of the store, the cache and the marks.
use Rattle.std.specs.Prelude.{◌≡◌, ◌≤◌, ℕ, Bool, Result, IfErr, All}
use Rattle.run_io.specs.Bytes.{Rose}
use Rattle.ledger_spec.specs.Bytes.{Half, Lookup}
use Rattle.rotating_store.specs.Stores.{Store}
use Rattle.rotating_store.specs.Reading.{WasRead}
use Rattle.full_below.specs.declared.marks.Marks.{Marks}
use Rattle.tree_cache.specs.declared.cache.TreeCache.{TreeCache}
use Rattle.missing_walk.specs.declared.search.Search.{Search}
use Rattle.missing_walk.specs.Pending.{IsOpen, IsCachedTrue}
use Rattle.missing_walk.specs.Views.{Tells, KeepsCache}

-- a call that asks the store: it was only read, its backends were asked so often in all at most, and the call ends with the fault only
-- where the count of faults rose
pub record Asks {X E : Type 0} (tells : Bool) (half : Half) (fault : E) (most : ℕ) (s s' : Store) (result : Result X E) : Type 0 where
  pub read : WasRead tells half s s'
  pub gets : s'.gets ≤ most
  pub cause : IfErr result (λ e. e ≡ fault → Rose s.faults s'.faults)

-- one that uses cache and marks too: they are of the same generation, and there is as much room for marks
pub record LeavesUsed {X E : Type 0} (tells : Bool) (half : Half) (fault : E) (most : ℕ) (s s' : Store) (c c' : TreeCache) (m m' : Marks)
    (result : Result X E) : Type 0 where
  pub read : WasRead tells half s s'
  pub gets : s'.gets ≤ most
  pub cause : IfErr result (λ e. e ≡ fault → Rose s.faults s'.faults)
  pub cache : c'.generation ≡ c.generation
  pub marks : m'.generation ≡ m.generation
  pub room : m'.entries.cap ≡ m.entries.cap

-- cached nodes stay true of what the store tells, in the same generation
pub record KeepsCached (tells : Bool) (half : Half) (s : Store) (c c' : TreeCache) : Type 0 where
  pub entries : (nodes : Lookup) → Tells tells half s nodes → KeepsCache (IsCachedTrue half nodes) c c'
  pub generation : c'.generation ≡ c.generation

-- cached nodes stay true where the inner nodes that the search has gone below are held, in the same generation
pub record KeepsOpen (s : Search) (c c' : TreeCache) : Type 0 where
  pub entries : (half : Half) (nodes : Lookup) → All (IsOpen half nodes) s.opened.items → KeepsCache (IsCachedTrue half nodes) c c'
  pub generation : c'.generation ≡ c.generation

-- the marks are of the same generation, with as much room
pub record SameRoom (m m' : Marks) : Type 0 where
  pub generation : m'.generation ≡ m.generation
  pub room : m'.entries.cap ≡ m.entries.cap
