-- The wire form of a node ID: 32 bytes, and then the depth.
use Rattle.std.specs.Prelude.{ℕ, List, length, take, nat_eq, nat_lt, slice_index, Option, Some, None, Result, Ok, Err, if◌then◌else◌}
use Rattle.nib_path.specs.declared.IdFault.{IdFault}
use Rattle.nib_path.specs.declared.IdFault.TheVariants.{Length, Depth, Tail}
use Rattle.nib_path.specs.Paths.{nibbles, first_set_from}

-- the path, unless a nibble behind it isn't zero
abbrev pub path_unless : List ℕ → Option ℕ → Result (List ℕ) IdFault
path_unless path None = Ok path
path_unless path (Some i) = Err (Tail i)

-- the path that 32 bytes and a depth stand for
abbrev pub read_id : List ℕ → ℕ → Result (List ℕ) IdFault
read_id id depth =
    if nat_lt 64 depth then Err (Depth depth) else path_unless (take depth (nibbles id)) (first_set_from depth (nibbles id))

-- the path that bytes are the wire form of, or the first thing that is wrong with them
abbrev pub read_wire_id : List ℕ → Result (List ℕ) IdFault
read_wire_id bytes =
    if nat_eq (length bytes) 33 then read_id (take 32 bytes) (slice_index bytes 32) else Err (Length (length bytes))
