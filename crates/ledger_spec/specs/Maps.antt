-- Finite maps, as their entries in the order of the keys: the words of std's `BTreeMap`.
use Rattle.std.specs.Prelude.{ℕ, Bool, is_some, List, Option}
use Rattle.std.specs.Ordering.{nat_cmp, ordering_then}
use Rattle.std.specs.declared.cmp.Ordering.{Ordering}
use Rattle.std.specs.Cmp.Lexicographic.{slice_cmp}
use Rattle.std.specs.Map.{lookup, remove_entry, set_value, keys_of}
use Rattle.std.specs.BTreeMap.{is_at, insert_entry}
use Rattle.std.specs.List.Sorted.{IsStrictlySortedBy}
use Rattle.std.specs.FinMap.{FinMap}
use Rattle.std.specs.FinMap as map
use Rattle.std.specs.FinSet as set
use Rattle.std.specs.FinSet.{FinSet}
use Rattle.std.specs.Coded.{Coded, coded_ℕ, coded_list}

-- the bytes' order
abbrev pub hash_cmp : List ℕ → List ℕ → Ordering
hash_cmp = slice_cmp nat_cmp

-- an actor, and one of its numbers
abbrev pub numbered_cmp : ℕ × ℕ → ℕ × ℕ → Ordering
numbered_cmp a b = ordering_then (nat_cmp a.0 b.0) (nat_cmp a.1 b.1)

-- a finite map whose value does not depend on how it is kept: two that answer alike are equal
abbrev pub MapOf : Type 0 → Type 0
MapOf X = FinMap (slice_cmp nat_cmp) X

abbrev pub SetOf : Type 0
SetOf = FinSet (slice_cmp nat_cmp)

abbrev pub map_code : {X : Type 0} → Coded X → Coded (FinMap (slice_cmp nat_cmp) X)
map_code x = map.code (coded_list coded_ℕ) x

abbrev pub set_code : Coded (FinSet (slice_cmp nat_cmp))
set_code = set.code (coded_list coded_ℕ)

-- the keys of a map
abbrev pub hashes_in : {X : Type 0} → FinMap (slice_cmp nat_cmp) X → FinSet (slice_cmp nat_cmp)
hashes_in m = set.from_list (map.keys m)

abbrev pub ForHash : Type 0 → Type 0
ForHash X = List (List ℕ × X)

abbrev pub ForActor : Type 0 → Type 0
ForActor X = List ((ℕ × ℕ) × X)

abbrev pub ForPeer : Type 0 → Type 0
ForPeer X = List (ℕ × X)

module _ {K X : Type 0} (cmp : K → K → Ordering) where
  abbrev pub get_in : List (K × X) → K → Option X
  get_in m k = lookup (is_at (cmp k)) m

  abbrev pub has_in : List (K × X) → K → Bool
  has_in m k = is_some (get_in m k)

  abbrev pub insert_in : List (K × X) → K → X → List (K × X)
  insert_in m k x = insert_entry cmp m k x

  abbrev pub remove_in : List (K × X) → K → List (K × X)
  remove_in m k = remove_entry (is_at (cmp k)) m

  -- with another value at a key that is there
  abbrev pub set_in : List (K × X) → K → X → List (K × X)
  set_in m k x = set_value (is_at (cmp k)) m x

  -- the keys rise
  abbrev pub IsMap : List (K × X) → Type 0
  IsMap m = IsStrictlySortedBy cmp (keys_of m)
