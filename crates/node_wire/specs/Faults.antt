-- The numbers of the causes, and what each tells of the bytes.
use Rattle.std.specs.Prelude.{◌≡◌, ℕ, ◌-◌, ◌/◌, ◌==◌, ◌||◌, not, nat_lt, Bool, if◌then◌else◌, List, [], ◌∷◌, length, take, slice_index}
use Rattle.std.specs.List.{list_any}
use Rattle.ledger_spec.specs.Bytes.{Bytes, is_zero}
use Rattle.ledger_spec.specs.Wire.{Chunk, chunks_in}
use Rattle.node_wire.specs.declared.fault.WireFault.{WireFault}
use Rattle.node_wire.specs.declared.fault.WireFault.TheVariants as faults

-- the number of a cause; want of memory has 0
abbrev pub code : WireFault → ℕ
code faults.Empty = 1
code (faults.TypeByte byte) = 2
code (faults.FullLength n) = 3
code (faults.ChunkLength n) = 4
code (faults.Position p) = 5
code (faults.Repeated p) = 6
code (faults.ZeroChunk p) = 7
code faults.EmptyInner = 8
code (faults.LeafShort n) = 9
code faults.ZeroKey = 10
code (faults.TooLong n) = 11
code faults.Memory = 0

-- the chunks of a compressed inner node
abbrev pub all_chunks : Bytes → List Chunk
all_chunks front = chunks_in (length front / 33) front

-- a chunk is refused after chunks at these positions: for its position, which is too high or repeated, or its zero hash
abbrev pub is_refused : List ℕ → Chunk → Bool
is_refused before c = not (nat_lt c.position 16) || (list_any (λ p. p == c.position) before || is_zero c.hash)

-- the position of the first chunk that is refused, after chunks at these positions
abbrev pub refused_position : List ℕ → List Chunk → ℕ
refused_position before [] = 0
refused_position before (c ∷ rest) = if is_refused before c then c.position else refused_position (c.position ∷ before) rest

-- how many bytes of what stands before the type byte are data: all of a bare transaction's, else all but the key's
abbrev pub data_size : ℕ → ℕ → ℕ
data_size type n = if type == 0 then n else n - 32

-- what a fault carries, by the type byte and what stands before it: the type byte; how many bytes stand before it, or how many of
-- them are data; or the position of the first chunk that is refused
abbrev pub TellsFront : ℕ → Bytes → WireFault → Type 0
TellsFront type front (faults.TypeByte byte) = byte ≡ type
TellsFront type front (faults.FullLength n) = n ≡ length front
TellsFront type front (faults.ChunkLength n) = n ≡ length front
TellsFront type front (faults.Position p) = p ≡ refused_position [] (all_chunks front)
TellsFront type front (faults.Repeated p) = p ≡ refused_position [] (all_chunks front)
TellsFront type front (faults.ZeroChunk p) = p ≡ refused_position [] (all_chunks front)
TellsFront type front (faults.LeafShort n) = n ≡ length front
TellsFront type front (faults.TooLong n) = n ≡ data_size type (length front)
TellsFront type front _ = Unit {0}

-- what a fault carries
abbrev pub Tells : Bytes → WireFault → Type 0
Tells w fault = TellsFront (slice_index w (length w - 1)) (take (length w - 1) w) fault

-- what a fault of a chunk at this position carries
abbrev pub TellsChunk : ℕ → WireFault → Type 0
TellsChunk position (faults.Position p) = p ≡ position
TellsChunk position (faults.Repeated p) = p ≡ position
TellsChunk position (faults.ZeroChunk p) = p ≡ position
TellsChunk position _ = ⊥

-- what a fault of a key and so many bytes of data carries
abbrev pub TellsData : ℕ → WireFault → Type 0
TellsData size (faults.TooLong n) = n ≡ size
TellsData size faults.ZeroKey = Unit {0}
TellsData size faults.Memory = Unit {0}
TellsData size _ = ⊥

-- the same for data and then a key, so many bytes together
abbrev pub TellsKeyed : ℕ → WireFault → Type 0
TellsKeyed size (faults.LeafShort n) = n ≡ size
TellsKeyed size fault = TellsData (size - 32) fault
