-- What is kept of a search, of the marks and of the cache: each time that nobody looks, and within a slice.
use Rattle.std.specs.Prelude.{◌≡◌, ℕ, ◌<◌, ◌≤◌, ◌==◌, if◌then◌else◌, is_some, true, List, [], ◌∷◌, ◌++◌, length, reverse, map}
use Rattle.std.specs.Prelude.{Option, None, Some, IfSome, ◌&&◌}
use Rattle.std.specs.Bool.{⊤}
use Rattle.ledger_spec.specs.declared.Place.{Place}
use Rattle.ledger_spec.specs.declared.Place.TheVariants.{Node as NodePlace}
use Rattle.ledger_spec.specs.declared.ShapeFault.{ShapeFault}
use Rattle.ledger_spec.specs.Bytes.{Half, Lookup}
use Rattle.ledger_spec.specs.Findings.{lacks, breaks}
use Rattle.full_below.specs.declared.marks.Marks.{Marks}
use Rattle.full_below.specs.Marking.{AreMarked}
use Rattle.tree_cache.specs.declared.cache.TreeCache.{TreeCache}
use Rattle.tree_cache.specs.Caching.{AreCached}
use Rattle.missing_walk.specs.declared.todo.Todo.{Todo}
use Rattle.missing_walk.specs.declared.search.Search.{Search}
use Rattle.missing_walk.specs.declared.search.Slice.{Slice}
use Rattle.missing_walk.specs.declared.search.Slice.TheVariants as slice
use Rattle.missing_walk.specs.declared.Found.{Found}
use Rattle.missing_walk.specs.Sees.{IsHeaderOf, most_missing}
use Rattle.missing_walk.specs.Pending.{Pending, stacked, noted_places, found_at, found_all, Covers, IsFull, IsCachedTrue, Around}

abbrev pub place_of : Todo → Place
place_of t = NodePlace t.at.kind t.at.id

-- a search that has read its header: all that is found of the ledger is found at the noted places and those of the stack, in this order
pub record Kept (half : Half) (nodes : Lookup) (s : Search) : Type 0 where
  pub head : IsHeaderOf nodes s.target s.header
  pub covers : Covers half nodes s.target (noted_places s.missing.items ++ stacked s.stack.items)
  pub around : Around half nodes (reverse s.opened.items) (stacked s.stack.items)
  pub few : length s.missing.items ≤ most_missing

-- a search that nobody has begun
pub record IsNew (s : Search) : Type 0 where
  pub generation : s.generation ≡ None
  pub header : s.header ≡ None
  pub missing : s.missing.items ≡ []
  pub broken : s.broken ≡ None

-- the rule on marks, cache and search: marks and cached nodes are true, and so is a search that began in this generation; none began in
-- a later one, and none holds a broken place
pub record Rule (half : Half) (nodes : Lookup) (s : Search) (c : TreeCache) (m : Marks) : Type 0 where
  pub marks : AreMarked (IsFull half nodes) m
  pub cache : AreCached (IsCachedTrue half nodes) c
  pub past : IfSome s.generation (λ g. g ≤ m.generation)
  pub unbroken : s.broken ≡ None
  pub search : s.generation ≡ Some m.generation → is_some s.header ≡ true → Kept half nodes s

-- the same within the generation of the first slice
pub record Holding (half : Half) (nodes : Lookup) (s : Search) (c : TreeCache) (m : Marks) : Type 0 where
  pub marks : AreMarked (IsFull half nodes) m
  pub cache : AreCached (IsCachedTrue half nodes) c
  pub search : is_some s.header ≡ true → Kept half nodes s

-- the place on top of the stack breaks the rule, and there was room for a missing place more
pub record BreaksOnTop (half : Half) (nodes : Lookup) (stack missing : List Todo) (place : Place) (fault : ShapeFault) : Type 0 where
  pub top : Pending
  pub rest : List Pending
  pub places : stacked stack ≡ top ∷ rest
  pub found : found_at half nodes top ≡ breaks place fault ∷ []
  pub room : length missing < 256

-- within a slice: each noted place is missing, and the broken one is on top of the stack
pub record Going (half : Half) (nodes : Lookup) (s : Search) (c : TreeCache) (m : Marks) : Type 0 where
  pub kept : Kept half nodes s
  pub marks : AreMarked (IsFull half nodes) m
  pub cache : AreCached (IsCachedTrue half nodes) c
  pub tested : found_all half nodes (noted_places s.missing.items) ≡ map lacks (map place_of s.missing.items)
  pub broke : IfSome s.broken (λ b. BreaksOnTop half nodes s.stack.items s.missing.items b.0 b.1)

-- the same search, gone on
pub record SameSearch (s s' : Search) : Type 0 where
  pub target : s'.target ≡ s.target
  pub generation : s'.generation ≡ s.generation
  pub header : s'.header ≡ s.header

-- where the slice ended the search, this holds of what was found
abbrev pub OnDone : Slice → (Found → Type 0) → Type 0
OnDone (slice.Done found) P = P found
OnDone slice.More P = ⊤
OnDone (slice.Stale seen now) P = ⊤

-- it is no answer that the generation has turned
abbrev pub IsNoStale : Slice → Type 0
IsNoStale (slice.Done found) = ⊤
IsNoStale slice.More = ⊤
IsNoStale (slice.Stale seen now) = ⊥

-- the generation of the first slice, where it isn't this one
abbrev pub stale_in : Option ℕ → ℕ → Option ℕ
stale_in None now = None
stale_in (Some seen) now = if seen == now then None else Some seen

-- the generation that a slice leaves: the present one, or none, where the search is to begin anew
abbrev pub generation_after : Option ℕ → ℕ → Option ℕ
generation_after first now = if is_some (stale_in first now) then None else Some now

-- that the generation has turned is answered exactly where it has, with both
abbrev pub IsStale : Option ℕ → ℕ → Slice → Type 0
IsStale first present (slice.Stale seen now) = (stale_in first present ≡ Some seen) × (now ≡ present)
IsStale first present (slice.Done found) = stale_in first present ≡ None
IsStale first present slice.More = stale_in first present ≡ None

-- the first slice was in this generation, or there was none and the search begins at its header
pub record Renews (now : ℕ) (s s' : Search) : Type 0 where
  pub target : s'.target ≡ s.target
  pub generation : s'.generation ≡ Some now
  pub broken : s'.broken ≡ s.broken
  pub missing : s'.missing.items ≡ s.missing.items
  pub begun : is_some s'.header ≡ (is_some s.generation && is_some s.header)
  pub same : is_some s'.header ≡ true → (s' ≡ s) × (s.generation ≡ Some now)

-- where the slice left the search for another one, this holds
abbrev pub OnMore : Slice → Type 0 → Type 0
OnMore (slice.Done found) P = ⊤
OnMore slice.More P = P
OnMore (slice.Stale seen now) P = ⊤
