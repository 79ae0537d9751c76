-- The chunks of a compressed inner node, as they are taken into sixteen branches, and what is read of a node.
use Rattle.std.specs.Prelude.{ℕ, not, nat_lt, if◌then◌else◌, List, Option, None, Some, Result, Ok, take, slice_index}
use Rattle.std.specs.List.{slice_index_or}
use Rattle.ledger_spec.specs.Bytes.{Bytes, Hash, zero_hash, is_zero, is_nonzero}
use Rattle.ledger_spec.specs.Forms.{Held}
use Rattle.ledger_spec.specs.Wire.{Chunk, checked_inner}
use Rattle.shamap_node.specs.Nodes.{held_leaf}
use Rattle.shamap_node.specs.declared.Leaf.{Leaf}

-- the chunk of 33 bytes
abbrev pub chunk_in : Bytes → Chunk
chunk_in bytes = record { hash = take 32 bytes; position = slice_index bytes 32 }

-- why a chunk isn't taken, by the branches that are taken: zero where it is
abbrev pub slot_cause : List Hash → Chunk → ℕ
slot_cause hashes c =
    if not (nat_lt c.position 16) then 5
    else if is_nonzero (slice_index_or hashes c.position zero_hash) then 6
    else if is_zero c.hash then 7
    else 0

-- the leaf that was read, or else the inner node of these branches, or why it is none
abbrev pub leaf_or_inner : Option Leaf → List Hash → Result Held ℕ
leaf_or_inner (Some l) hashes = Ok (held_leaf l)
leaf_or_inner None hashes = checked_inner hashes
