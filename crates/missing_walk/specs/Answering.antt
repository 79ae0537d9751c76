-- What a slice answers, and what it leaves of the search.
use Rattle.std.specs.Prelude.{◌≡◌, ◌≤◌, ◌+◌, ℕ, Bool, true, false, Option, None, Result, IfOk, IfSome, is_some, length}
use Rattle.ledger_spec.specs.Bytes.{Half, Lookup}
use Rattle.rotating_store.specs.Stores.{Store}
use Rattle.full_below.specs.declared.marks.Marks.{Marks}
use Rattle.full_below.specs.Marking.{AreMarked}
use Rattle.tree_cache.specs.declared.cache.TreeCache.{TreeCache}
use Rattle.missing_walk.specs.declared.Found.{Found}
use Rattle.missing_walk.specs.declared.search.Search.{Search}
use Rattle.missing_walk.specs.declared.search.Slice.{Slice}
use Rattle.missing_walk.specs.Begins.{Begins}
use Rattle.missing_walk.specs.Ends.{IsClean, AreRootsMarked}
use Rattle.missing_walk.specs.Founds.{IsFound}
use Rattle.missing_walk.specs.Moves.{has_ended}
use Rattle.missing_walk.specs.Passes.{IsDone, HasMarkedRoots}
use Rattle.missing_walk.specs.Pending.{IsFull}
use Rattle.missing_walk.specs.Searching.{Rule, Holding, Kept, Going, OnDone, OnMore, IsNoStale, IsStale, generation_after}
use Rattle.missing_walk.specs.Sees.{Finds}
use Rattle.missing_walk.specs.Views.{Tells}

-- Done gives what is found of the ledger where the search is true, and marks the roots where that is nothing; More leaves places, in
-- true searches fewer ones, and less than the most that there can be.
pub record Answers {E : Type 0} (tells : Bool) (half : Half) (store : Store) (IsTrueOf Fewer : Lookup → Type 0) (Less : Type 0)
    (s s' : Search) (m' : Marks) (result : Result Slice E) : Type 0 where
  pub done : (nodes : Lookup) → Tells tells half store nodes → IsTrueOf nodes → IfOk result (λ a. OnDone a (Finds half nodes s.target))
  pub known : IfOk result (λ a. OnDone a IsFound)
  pub roots : IfOk result (λ a. OnDone a (λ f. IsClean f → 2 ≤ m'.entries.cap → AreRootsMarked f.header m'))
  pub more : IfOk result (λ a. OnMore a (has_ended s' ≡ false))
  pub rest : (nodes : Lookup) → Tells tells half store nodes → IsTrueOf nodes → IfOk result (λ a. OnMore a (Fewer nodes))
  pub bound : length s.missing.items ≤ 256 → IfOk result (λ a. OnMore a Less)

-- the rule still holds of the same ledger's search, which is of the present generation, or of none where that has turned, as is answered
pub record KeepsRule {E : Type 0} (tells : Bool) (half : Half) (store : Store) (s s' : Search) (c c' : TreeCache) (m m' : Marks)
    (result : Result Slice E) : Type 0 where
  pub rule : (nodes : Lookup) → Tells tells half store nodes → Rule half nodes s c m → Rule half nodes s' c' m'
  pub target : s'.target ≡ s.target
  pub generation : s'.generation ≡ generation_after s.generation m.generation
  pub stale : IfOk result (IsStale s.generation m.generation)

-- within a generation, which isn't answered to have turned, what holds of search, marks and cache still does
pub record KeepsHolding {E : Type 0} (tells : Bool) (half : Half) (store : Store) (s s' : Search) (c c' : TreeCache) (m m' : Marks)
    (result : Result Slice E) : Type 0 where
  pub holding : (nodes : Lookup) → Tells tells half store nodes → Holding half nodes s c m → Holding half nodes s' c' m'
  pub fresh : IfOk result IsNoStale

-- a search that is over, with few places noted, may conclude
pub record MayConclude (s : Search) : Type 0 where
  pub over : has_ended s ≡ true
  pub few : length s.missing.items ≤ 256

-- the search of the same ledger, of the same generation, and no place is broken
pub record BeginsWhole (s s' : Search) : Type 0 where
  pub unbroken : s'.broken ≡ None
  pub target : s'.target ≡ s.target
  pub generation : s'.generation ≡ s.generation

-- where places are left the header was read; and where the roots that it names are marked, the search is done, with two gets at most
pub record EntersFrom {E : Type 0} (tells : Bool) (half : Half) (store store' : Store) (m : Marks) (n : ℕ) (s s' : Search)
    (result : Result Slice E) : Type 0 where
  pub entered : IfOk result (λ a. OnMore a (is_some s'.header ≡ true))
  pub first : (nodes : Lookup) → Tells tells half store nodes → s.header ≡ None → HasMarkedRoots nodes s.target m → 2 ≤ n
      → IfOk result IsDone × (store'.gets ≤ store.gets + 2)

-- the search of the same ledger, of the same generation, and no place is broken where none was
pub record StaysUnbroken (s s' : Search) : Type 0 where
  pub unbroken : s.broken ≡ None → s'.broken ≡ None
  pub target : s'.target ≡ s.target
  pub generation : s'.generation ≡ s.generation

-- what is found where no header is read: never nothing
pub record FindsNoHeader {E : Type 0} (tells : Bool) (half : Half) (store : Store) (s : Search) (result : Result (Option Found) E)
    : Type 0 where
  pub found : (nodes : Lookup) → Tells tells half store nodes → IfOk result (λ o. IfSome o (Finds half nodes s.target))
  pub known : IfOk result (λ o. IfSome o IsFound)
  pub unclean : IfOk result (λ o. IfSome o (λ f. IsClean f → ⊥))

-- a search that has read its header stays as it is, and one that reads it begins at the roots
pub record Enters {E : Type 0} (tells : Bool) (half : Half) (store : Store) (s s' : Search) (result : Result (Option Found) E)
    : Type 0 where
  pub stays : is_some s.header ≡ true → s' ≡ s
  pub kept : (nodes : Lookup) → Tells tells half store nodes
      → (is_some s.header ≡ true → Kept half nodes s) → is_some s'.header ≡ true → Kept half nodes s'
  pub entered : IfOk result (λ o. o ≡ None → is_some s'.header ≡ true)
  pub begun : s.header ≡ None → IfOk result (λ o. o ≡ None → IfSome s'.header (λ h. Begins h s s'))

-- what a search that is over has found, under its header: few places, and where that is nothing the roots are marked
pub record Concludes {E : Type 0} (s : Search) (m m' : Marks) (result : Result Found E) : Type 0 where
  pub found : (half : Half) (nodes : Lookup) (cache : TreeCache) → Going half nodes s cache m → IfOk result (Finds half nodes s.target)
  pub size : IfOk result (λ f. length f.missing ≤ 256)
  pub header : IfOk result (λ f. f.header ≡ s.header)
  pub roots : IfOk result (λ f. IsClean f → 2 ≤ m'.entries.cap → AreRootsMarked f.header m')

-- what is kept of the places, and the marks, stay true
pub record KeepsGoing (s s' : Search) (m m' : Marks) : Type 0 where
  pub kept : (half : Half) (nodes : Lookup) (cache : TreeCache) → Going half nodes s cache m → Kept half nodes s'
  pub marks : (half : Half) (nodes : Lookup) (cache : TreeCache) → Going half nodes s cache m → AreMarked (IsFull half nodes) m'
