-- Where a path leads from a stored header.
use Rattle.std.specs.Prelude.{ℕ, if◌then◌else◌, List, [], ◌∷◌, ◌++◌, Option, None, Some}
use Rattle.std.specs.Option.{option_and_then, option_map_or}
use Rattle.std.specs.List.{slice_index_or}
use Rattle.ledger_spec.specs.declared.Kind.{Kind}
use Rattle.ledger_spec.specs.declared.Kind.TheVariants.{State, Tx, Set}
use Rattle.ledger_spec.specs.Bytes.{Bytes, Hash, Lookup, zero_hash, is_zero}
use Rattle.ledger_spec.specs.Header.{state_root_of, tx_root_of}
use Rattle.ledger_spec.specs.Forms.{inner_of, header_of}

-- what stands in the way to a place, with the path to it from the root, or the hash that is wanted there and the inner node above
pub data Spot : Type 0 where
  no_base : Spot
  no_parent : List ℕ → Spot
  empty_branch : List ℕ → Spot
  under_leaf : List ℕ → Spot
  wanted : Hash → Option (List Hash) → Spot

-- the root of a header's map of the kind
abbrev pub header_root : Kind → Bytes → Hash
header_root State header = state_root_of header
header_root Tx header = tx_root_of header
header_root Set header = zero_hash

-- one level down, from what is stored above
abbrev pub into : List ℕ → (List Hash → Spot) → Option Bytes → Spot
into path on None = no_parent path
into path on (Some form) = option_map_or on (inner_of form) (under_leaf path)

-- from the place at `path`, which has this hash and parent, on by the nibbles of the rest
abbrev pub spot_from : Lookup → List ℕ → Option (List Hash) → Hash → List ℕ → Spot
spot_from nodes path parent h [] = if is_zero h then empty_branch path else wanted h parent
spot_from nodes path parent h (n ∷ rest) =
    if is_zero h then empty_branch path
    else into path (λ hashes. spot_from nodes (path ++ n ∷ []) (Some hashes) (slice_index_or hashes n zero_hash) rest) (nodes h)

-- what is stored under the target, as a header
abbrev pub header_in : Lookup → Hash → Option Bytes
header_in nodes target = option_and_then header_of (nodes target)

-- the way down from the header
abbrev pub spot_below : Lookup → Kind → List ℕ → Option Bytes → Spot
spot_below nodes kind path None = no_base
spot_below nodes kind path (Some header) = spot_from nodes [] None (header_root kind header) path

-- the place of a path in a ledger's map
abbrev pub spot_of : Lookup → Hash → Kind → List ℕ → Spot
spot_of nodes target kind path = spot_below nodes kind path (header_in nodes target)
