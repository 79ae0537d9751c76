-- The searches that checks have begun: of each actor one at most.
use Rattle.std.specs.Prelude.{◌≡◌, ◌≢◌, ◌⊎◌, ◌+◌, ◌<◌, ◌≤◌, ℕ, List, Option, None, Some, IsSome, IfSome, IsSomeAnd, slice_index_or}
use Rattle.ledger_spec.specs.Bytes.{Hash, Half, Lookup}
use Rattle.missing_walk.specs.Rests.{rest}
use Rattle.missing_walk.specs.Searching.{IsNew, stale_in}
use Rattle.ledger_searches.specs.declared.hunt.Hunt.{Hunt}

-- how many places a slice looks at
abbrev pub places_of_a_slice : ℕ
places_of_a_slice = 256

-- how often a search begins anew before it is run whole
abbrev pub most_stales : ℕ
most_stales = 3

-- how often a slice asks the backends at most
abbrev pub most_asked : ℕ
most_asked = 2048

-- the search that an actor's check has begun, where it has begun one
abbrev pub hunt_of : List (Option Hunt) → ℕ → Option Hunt
hunt_of hs a = slice_index_or hs a None

-- a search of this ledger that nobody has begun
pub record IsNewHunt (t : Hash) (h : Hunt) : Type 0 where
  pub new : IsNew h.search
  pub target : h.target ≡ t
  pub stales : h.stales ≡ 0

-- no search of this ledger was begun
abbrev pub IsUnbegun : Option Hunt → Hash → Type 0
IsUnbegun o t = IfSome o (λ h. h.target ≢ t)

-- the search that a section goes on with: the one of this ledger that was begun, else a new one
abbrev pub IsTakenUp : Option Hunt → Hash → Hunt → Type 0
IsTakenUp o t h = ((o ≡ Some h) × (h.target ≡ t)) ⊎ (IsUnbegun o t × IsNewHunt t h)

-- the generation has turned since its first slice
abbrev pub IsStale : ℕ → Hunt → Type 0
IsStale now h = IsSome (stale_in h.search.generation now)

-- A slice that leaves a search for another one, which had begun anew less than three times: where the generation has turned it begins anew
-- once more, else its rest is less by 256 places at least.
pub record IsLeft (half : Half) (nodes : Lookup) (now : ℕ) (h h' : Hunt) : Type 0 where
  pub target : h'.target ≡ h.target
  pub few : h.stales < most_stales
  pub stale : IsStale now h → h'.stales ≡ h.stales + 1
  pub fresh : (IsStale now h → ⊥)
      → (h'.stales ≡ h.stales) × (rest half nodes h'.search + places_of_a_slice ≤ rest half nodes h.search)

-- the search of this ledger that was begun, or a new one, is left for another slice
pub record GoesOn (half : Half) (nodes : Lookup) (now : ℕ) (t : Hash) (o o' : Option Hunt) : Type 0 where
  pub from : Hunt
  pub taken : IsTakenUp o t from
  pub to : Hunt
  pub kept : o' ≡ Some to
  pub left : IsLeft half nodes now from to

-- the search of this ledger that was begun is run whole: it has begun anew for the third time, or does so now
abbrev pub IsRunWhole : ℕ → Option Hunt → Hash → Type 0
IsRunWhole now o t = IsSomeAnd o (λ h.
    (h.target ≡ t) × ((most_stales ≤ h.stales) ⊎ ((most_stales ≤ h.stales + 1) × IsStale now h)))
