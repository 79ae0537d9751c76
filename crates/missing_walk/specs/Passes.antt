-- How a search passes marked places.
use Rattle.std.specs.Prelude.{◌≡◌, ℕ, ◌+◌, ◌≤◌, Bool, true, false, List, [], length, None, Some, Result, Ok, Err}
use Rattle.std.specs.Bool.{⊤}
use Rattle.std.specs.List.{AllByRecursion}
use Rattle.ledger_spec.specs.declared.Kind.TheVariants.{State, Tx}
use Rattle.ledger_spec.specs.Bytes.{Bytes, Hash, Lookup, is_zero}
use Rattle.ledger_spec.specs.Header.{state_root_of, tx_root_of}
use Rattle.ledger_spec.specs.Spots.{header_in}
use Rattle.full_below.specs.declared.key.MarkKey.{MarkKey}
use Rattle.full_below.specs.declared.marks.Marks.{Marks}
use Rattle.full_below.specs.Marking.{is_marked}
use Rattle.missing_walk.specs.declared.todo.Todo.{Todo}
use Rattle.missing_walk.specs.declared.sight.View.{View}
use Rattle.missing_walk.specs.declared.sight.View.TheVariants as view
use Rattle.missing_walk.specs.declared.search.Search.{Search}
use Rattle.missing_walk.specs.declared.search.Slice.{Slice}
use Rattle.missing_walk.specs.declared.search.Slice.TheVariants as slice
use Rattle.missing_walk.specs.Pending.{Pending, stacked}
use Rattle.missing_walk.specs.Ends.{root_key}

abbrev pub IsNothing : View → Type 0
IsNothing view.Nothing = ⊤
IsNothing _ = ⊥

abbrev pub SeesNothing : {E : Type 0} → Result View E → Type 0
SeesNothing (Ok v) = IsNothing v
SeesNothing (Err e) = ⊥

-- what was marked still is
pub record StillMarked (m m' : Marks) : Type 0 where
  pub still : (key : MarkKey) → is_marked m key ≡ true → is_marked m' key ≡ true

abbrev pub key_of : Pending → MarkKey
key_of p = record { hash = p.hash; kind = p.kind; id = p.path }

abbrev pub AllMarked : Marks → List Pending → Type 0
AllMarked m ps = AllByRecursion (λ p. is_marked m (key_of p) ≡ true) ps

-- all places of the stack are marked, and nothing else is kept
pub record IsIdle (s : Search) (m : Marks) : Type 0 where
  pub opened : s.opened.items ≡ []
  pub missing : s.missing.items ≡ []
  pub broken : s.broken ≡ None
  pub marked : AllMarked m (stacked s.stack.items)

-- the place on top is gone, and nothing else has changed
pub record Skips (s s' : Search) (rest : List Todo) : Type 0 where
  pub stack : s'.stack.items ≡ rest
  pub opened : s'.opened.items ≡ s.opened.items
  pub missing : s'.missing.items ≡ s.missing.items
  pub broken : s'.broken ≡ s.broken

-- one place was passed
pub record PassesOne (s s' : Search) (m' : Marks) : Type 0 where
  pub idle : IsIdle s' m'
  pub shorter : length s'.stack.items + 1 ≡ length s.stack.items

-- some places were passed, and no backend was asked
pub record PassesSome (s s' : Search) (m' : Marks) (gets gets' : ℕ) : Type 0 where
  pub idle : IsIdle s' m'
  pub shorter : length s'.stack.items ≤ length s.stack.items
  pub unasked : gets' ≡ gets

-- all places were passed
abbrev pub AnswersTrue : {E : Type 0} → Result Bool E → Type 0
AnswersTrue (Ok b) = b ≡ true
AnswersTrue (Err e) = ⊥

abbrev pub IsDone : Slice → Type 0
IsDone (slice.Done found) = ⊤
IsDone slice.More = ⊥
IsDone (slice.Stale seen now) = ⊥

-- nothing was to be taken up
pub record StaysPut (s s' : Search) : Type 0 where
  pub stack : s'.stack.items ≡ s.stack.items
  pub opened : s'.opened.items ≡ s.opened.items
  pub missing : s'.missing.items ≡ []

-- the search has begun at roots that are marked
pub record IsReady (s : Search) (m : Marks) : Type 0 where
  pub missing : s.missing.items ≡ []
  pub opened : s.opened.items ≡ []
  pub marked : AllMarked m (stacked s.stack.items)
  pub few : length s.stack.items ≤ 2

-- the roots that the stored header names are marked, unless their maps are empty
pub record HasMarkedRoots (nodes : Lookup) (target : Hash) (m : Marks) : Type 0 where
  pub state : (bytes : Bytes) → Some bytes ≡ header_in nodes target → is_zero (state_root_of bytes) ≡ false
      → is_marked m (root_key State (state_root_of bytes)) ≡ true
  pub tx : (bytes : Bytes) → Some bytes ≡ header_in nodes target → is_zero (tx_root_of bytes) ≡ false
      → is_marked m (root_key Tx (tx_root_of bytes)) ≡ true
