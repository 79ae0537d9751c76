-- The walk of a map, place by place: what it meets, and what it finds at a place and below it.
use Rattle.std.specs.Prelude.{◌≡◌, ℕ, ◌<◌, false, List, [], ◌∷◌, ◌++◌, Option, None, Some}
use Rattle.std.specs.List.{filter_map, flat_map, range_with_len, slice_index_or}
use Rattle.ledger_spec.specs.declared.Kind.{Kind}
use Rattle.ledger_spec.specs.Bytes.{Hash, Half, Lookup, zero_hash, is_zero}
use Rattle.ledger_spec.specs.Forms.{inner}
use Rattle.ledger_spec.specs.Rules.{fault_of}
use Rattle.ledger_spec.specs.Findings.{Sight, sound, Met, sight_of, walk, Finding, finding_at}

-- what is seen at a place that has this hash, below this inner node
abbrev pub at_place : Half → Lookup → Kind → Option (List Hash) → List ℕ → Hash → Sight
at_place half nodes kind parent path h = sight_of half (λ n. fault_of n parent kind path) (nodes h)

-- what is found at a place that is met
abbrev pub finding_of : Met → Option Finding
finding_of m = finding_at m.place m.sight

-- the findings at a place and below it
unfoldable pub found_below : Half → Lookup → Kind → ℕ → Option (List Hash) → List ℕ → Hash → List Finding
found_below half nodes kind left parent path h = filter_map finding_of (walk half nodes kind left parent path h)

-- the findings below the first n branches of an inner node, whose branches have `left` levels below them
unfoldable pub found_in : Half → Lookup → Kind → ℕ → List Hash → List ℕ → ℕ → List Finding
found_in half nodes kind left hashes path n =
    flat_map (λ b. found_below half nodes kind left (Some hashes) (path ++ b ∷ []) (slice_index_or hashes b zero_hash)) (range_with_len 0 n)

-- the walk from a root meets the place at a path, with this inner node above and this hash: the root's place, and below each place that it
-- meets and where an inner node is seen that node's branches; none with the zero hash
pub data Meets (half : Half) (nodes : Lookup) (kind : Kind) (root : Hash) : Option (List Hash) → List ℕ → Hash → Type 0 where
  top : is_zero root ≡ false → Meets half nodes kind root None [] root
  branch : {parent : Option (List Hash)} {path : List ℕ} {h : Hash} {hashes : List Hash} {b : ℕ} → Meets half nodes kind root parent path h
      → at_place half nodes kind parent path h ≡ sound (inner hashes) → b < 16 → is_zero (slice_index_or hashes b zero_hash) ≡ false
      → Meets half nodes kind root (Some hashes) (path ++ b ∷ []) (slice_index_or hashes b zero_hash)
