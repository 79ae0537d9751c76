-- What the places of a search that are looked at one after the other promise alike.
use Rattle.std.specs.Prelude.{◌≡◌, ◌≤◌, ◌+◌, ◌++◌, ◌∷◌, [], ℕ, Bool, List, Option, None, Result, IsOk, IfOk, OnOk, OnErr, length}
use Rattle.ledger_spec.specs.declared.Place.{Place}
use Rattle.ledger_spec.specs.declared.ShapeFault.{ShapeFault}
use Rattle.ledger_spec.specs.Bytes.{Half, Lookup}
use Rattle.rotating_store.specs.Stores.{Store}
use Rattle.full_below.specs.declared.marks.Marks.{Marks}
use Rattle.tree_cache.specs.declared.cache.TreeCache.{TreeCache}
use Rattle.missing_walk.specs.declared.search.Search.{Search}
use Rattle.missing_walk.specs.declared.sight.View.{View}
use Rattle.missing_walk.specs.declared.todo.Todo.{Todo}
use Rattle.missing_walk.specs.Pending.{Pending, pending_of}
use Rattle.missing_walk.specs.Views.{Tells, Views}
use Rattle.missing_walk.specs.Searching.{Going, SameSearch, place_of}
use Rattle.missing_walk.specs.Moves.{has_ended, Heeds}
use Rattle.missing_walk.specs.Passes.{IsNothing, Skips}
use Rattle.missing_walk.specs.Rests.{weight, stored_weight, most_from, most_again, Weighs, Lighter}

-- the search goes on truly over what the store tells, and in these cases at least n fewer places are left, of those that the store tells
-- and of the most that there can be
pub record Lightens (tells : Bool) (half : Half) (store : Store) (n : ℕ) (s s' : Search) (c c' : TreeCache) (m m' : Marks)
    (In : Type 0 → Type 0) : Type 0 where
  pub going : (nodes : Lookup) → Tells tells half store nodes → Going half nodes s c m → Going half nodes s' c' m'
  pub rests : (nodes : Lookup) → Tells tells half store nodes → Going half nodes s c m
      → In (Lighter (weight half nodes) (stored_weight half nodes) n s s')
  pub bounds : In (Lighter most_from most_again n s s')

-- the same search, gone on at one place: one place more is noted at most, and where memory or the store fails this is the broken one
pub record NotesOne {X E : Type 0} (broken : Option (Place × ShapeFault)) (s s' : Search) (result : Result X E) : Type 0 where
  pub unbroken : OnErr result (s'.broken ≡ broken)
  pub same : SameSearch s s'
  pub few : length s'.missing.items ≤ length s.missing.items + 1

-- the same search, gone on at some places, and whether it has ended
pub record RunsOn {E : Type 0} (s s' : Search) (result : Result Bool E) : Type 0 where
  pub unbroken : s.broken ≡ None → OnErr result (s'.broken ≡ None)
  pub over : IfOk result (λ b. b ≡ has_ended s')
  pub same : SameSearch s s'
  pub few : length s.missing.items ≤ 256 → length s'.missing.items ≤ 256

-- the same search, without a broken place
pub record StaysWhole (s s' : Search) : Type 0 where
  pub unbroken : s'.broken ≡ None
  pub same : SameSearch s s'

-- the search goes on by what is seen at the place on top of the stack: where that is nothing, the place is skipped, and where it is true of
-- what is stored, so is the search; and fewer places are left, by any weights by which what is seen leaves fewer
pub record GoesOnBy {X E : Type 0} (s s' : Search) (view : View) (place : Place) (result : Result X E) : Type 0 where
  pub nothing : IsNothing view → (rest : List Todo) (top : Todo) → s.stack.items ≡ rest ++ top ∷ [] → IsOk result × Skips s s' rest
  pub heeds : (half : Half) (nodes : Lookup) (rest : List Todo) (top : Todo) → s.stack.items ≡ rest ++ top ∷ [] → place ≡ place_of top
      → Views half nodes (pending_of top) view → Heeds half nodes s s'
  pub lighter : (f g : Pending → ℕ) (rest : List Todo) (top : Todo) → s.stack.items ≡ rest ++ top ∷ []
      → Weighs f g (pending_of top) view → OnOk result (Lighter f g 1 s s')
