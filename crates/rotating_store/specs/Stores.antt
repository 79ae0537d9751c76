-- What a store holds: the one map of its two backends.
use Rattle.std.specs.Prelude.{◌≡◌, ◌⊎◌, ◌≤◌, ◌-◌, ◌++◌, ℕ, Bool, IsTrue, cond, List, [], ◌∷◌, Option, None, Some, Result, Err}
use Rattle.std.specs.Option.{IsSome}
use Rattle.std.specs.Ordering.{is_gt}
use Rattle.std.specs.FinMap as finite
use Rattle.std.specs.FinSet as set
use Rattle.run_io.specs.Bytes.{Rose}
use Rattle.ledger_spec.specs.Maps.{SetOf, hashes_in, hash_cmp}
use Rattle.ledger_spec.specs.Bytes.{Bytes, Hash, Nodes}
use Rattle.node_backend.specs.Counts.{held_sum}
use Rattle.node_backend.specs.Numbers.{without}

-- a map with these pairs put into it, the first of the list last
abbrev pub insert_all : Nodes → List (Hash × Bytes) → Nodes
insert_all m [] = m
insert_all m (e ∷ es) = finite.insert (insert_all m es) e.0 e.1

-- the pairs of the first, and for other hashes those of the second
unfoldable pub merged : Nodes → Nodes → Nodes
merged writable archive = insert_all archive (finite.entries writable)

-- the numbers that are left where another one is taken out, if there is one
abbrev pub without_some : List ℕ → Option ℕ → List ℕ
without_some numbers None = numbers
without_some numbers (Some n) = without numbers n

-- of a shelf's numbers, those of none of the store's own backends
abbrev pub spare_of : List ℕ → ℕ → ℕ → Option ℕ → List ℕ
spare_of live archive writable ready = without_some (without (without live archive) writable) ready

-- what contracts see of a store: the two maps, whether a fresh backend is ready, the epoch, the counts, how much
-- of the counts is of backends that were discarded, the shelf's own count of faults, the numbers of the shelf's first list that
-- are of none of the store's backends, its second list, and the hashes whose forms were noted as checked
pub record Store : Type 0 where
  pub writable : Nodes
  pub archive : Nodes
  pub ready : Bool
  pub epoch : ℕ
  pub faults : ℕ
  pub gets : ℕ
  pub past_faults : ℕ
  pub past_gets : ℕ
  pub shelf_faults : ℕ
  pub spare : List ℕ
  pub undone : List ℕ
  pub noted : SetOf

-- a count of what is past, and those of the backends at hand
abbrev pub sum_of : ℕ → ℕ → ℕ → ℕ → ℕ
sum_of past writable archive ready = held_sum (held_sum (held_sum past writable) archive) ready

-- the same epoch, no backend was discarded, and none taken but for the store
abbrev pub SamePast : Store → Store → Type 0
SamePast s t = (t.epoch ≡ s.epoch) × (t.past_faults ≡ s.past_faults) × (t.past_gets ≡ s.past_gets)
    × (t.spare ≡ s.spare) × (t.undone ≡ s.undone)

-- what a call leaves of a store beside its maps: the same epoch, backends and notes; its counts don't fall, and the call ends with the
-- fault only where the count of faults rose
pub record LeavesStore {X E : Type 0} (fault : E) (s t : Store) (result : Result X E) : Type 0 where
  pub past : SamePast s t
  pub ready : t.ready ≡ s.ready
  pub noted : t.noted ≡ s.noted
  pub later : s.faults ≤ t.faults
  pub gets : s.gets ≤ t.gets
  pub cause : result ≡ Err fault → Rose s.faults t.faults

-- the numbers as before, or one more at their end
abbrev pub AddsAtMostOne : List ℕ → List ℕ → Type 0
AddsAtMostOne numbers numbers' = (numbers' ≡ numbers) ⊎ ((n : ℕ) × (numbers' ≡ numbers ++ n ∷ []))

-- the count of faults rose by as much as the shelf's own, and by nothing else
abbrev pub RoseByShelf : Store → Store → Type 0
RoseByShelf s t = (s.shelf_faults ≤ t.shelf_faults) × (t.faults ≡ held_sum s.faults (t.shelf_faults - s.shelf_faults))

-- the store's one map
abbrev pub nodes_of : Store → Nodes
nodes_of s = merged s.writable s.archive

-- the hashes that the writable backend alone holds
abbrev pub born_of : Store → SetOf
born_of s = set.difference (hashes_in s.writable) (hashes_in s.archive)

-- the form under the hash was noted as checked
abbrev pub is_noted : Store → Hash → Bool
is_noted s h = set.contains s.noted h

-- each note of the second is one of the first
abbrev pub HasNoNewNotes : Store → Store → Type 0
HasNoNewNotes s s' = (h : Hash) → IsTrue (is_noted s' h) → IsTrue (is_noted s h)

-- what the second holds has the notes that it had in the first
abbrev pub KeepsNotes : Store → Store → Type 0
KeepsNotes s s' = (h : Hash) → IsTrue (is_noted s h) → IsSome (finite.get (nodes_of s') h) → IsTrue (is_noted s' h)

-- the second is as the first, but for a note of this hash
pub record IsNoted (s : Store) (h : Hash) (s' : Store) : Type 0 where
  pub notes : (q : Hash) → IsTrue (is_noted s' q) → IsTrue (is_noted s q) ⊎ (q ≡ h)
  pub rest : s' ≡ record s { noted = s'.noted }

-- but for the counts and the notes
abbrev pub Counted : Store → Store → Type 0
Counted t s = s ≡ record t { faults = s.faults; gets = s.gets; noted = s.noted }

-- with a pair in the writable map
abbrev pub with_pair : Store → Hash → Bytes → Store
with_pair s h form = record s { writable = finite.insert s.writable h form }

-- no hash stands in both with different bytes
abbrev pub Agree : Nodes → Nodes → Type 0
Agree writable archive = (h : Hash) (form other : Bytes)
    → finite.get writable h ≡ Some form → finite.get archive h ≡ Some other → form ≡ other

-- the lesser of two hashes, or the one that there is
abbrev pub lesser_of : Option Hash → Option Hash → Option Hash
lesser_of None b = b
lesser_of (Some a) None = Some a
lesser_of (Some a) (Some b) = Some (cond (is_gt (hash_cmp a b)) b a)
