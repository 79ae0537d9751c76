-- What looking at a place promises.
use Rattle.std.specs.Prelude.{◌≡◌, ◌≤◌, Bool, true, false, Result, IfOk, length}
use Rattle.ledger_spec.specs.Bytes.{Half, Lookup, is_zero}
use Rattle.rotating_store.specs.Stores.{Store}
use Rattle.full_below.specs.declared.marks.Marks.{Marks}
use Rattle.full_below.specs.Marking.{AreMarked, is_marked}
use Rattle.tree_cache.specs.declared.cache.TreeCache.{TreeCache}
use Rattle.tree_cache.specs.Caching.{AreCached}
use Rattle.missing_walk.specs.declared.todo.Todo.{Todo}
use Rattle.missing_walk.specs.declared.sight.View.{View}
use Rattle.missing_walk.specs.Pending.{pending_of, IsFull, IsCachedTrue}
use Rattle.missing_walk.specs.Views.{Tells, Views, HasLevels}
use Rattle.missing_walk.specs.Passes.{SeesNothing, StillMarked}
use Rattle.missing_walk.specs.Rests.{weight, stored_weight, Weighs}

-- what is seen there, and that it leaves fewer places, where marks and cache are true of what the store tells; no inner node to go below
-- has no level below it
pub record SeesAt {E : Type 0} (tells : Bool) (half : Half) (s : Store) (c : TreeCache) (m : Marks) (todo : Todo) (result : Result View E)
    : Type 0 where
  pub view : (nodes : Lookup) → Tells tells half s nodes → AreMarked (IsFull half nodes) m
      → AreCached (IsCachedTrue half nodes) c → IfOk result (Views half nodes (pending_of todo))
  pub weighs : (nodes : Lookup) → Tells tells half s nodes → AreMarked (IsFull half nodes) m
      → AreCached (IsCachedTrue half nodes) c → is_zero todo.at.hash ≡ false
      → IfOk result (Weighs (weight half nodes) (stored_weight half nodes) (pending_of todo))
  pub levels : IfOk result (HasLevels (length todo.at.id))
  pub short : length todo.at.id ≤ 64

-- a marked place is passed: nothing is seen, all that was marked still is, and no backend is asked
pub record PassesMarked {E : Type 0} (s s' : Store) (m m' : Marks) (todo : Todo) (result : Result View E) : Type 0 where
  pub nothing : is_marked m todo.at ≡ true → SeesNothing result
  pub still : is_marked m todo.at ≡ true → StillMarked m m'
  pub unasked : is_marked m todo.at ≡ true → s'.gets ≡ s.gets
