-- The bytes in which peers send a node, ended by a type byte.
use Rattle.std.specs.Prelude.{map, ◌≡◌, ◌≢◌, ◌⊎◌, ℕ, zero, suc, ◌<◌, ◌-◌, ◌/◌, ◌%◌, ◌==◌, not, if◌then◌else◌, nat_lt, List}
use Rattle.std.specs.Prelude.{[], ◌∷◌, ◌++◌, length, take, drop, slice_index, IsTrue, Result, Ok, Err}
use Rattle.std.specs.Option.{option_map_or}
use Rattle.std.specs.List.{concat, flat_map, filter, find, count_by, list_any, slice_index_or, AllPairs, AllByRecursion}
use Rattle.ledger_spec.specs.declared.Kind.{Kind}
use Rattle.ledger_spec.specs.declared.Kind.TheVariants.{State, Tx, Set}
use Rattle.ledger_spec.specs.Bytes.{Bytes, Hash, Half, zero_hash, is_zero, is_nonzero, branches, hashes_of}
use Rattle.ledger_spec.specs.Forms.{Held, inner, leaf, header, IsHeld, data_limit, leaf_form}

-- a branch that isn't empty
pub record Chunk : Type 0 where
  pub hash : Hash
  pub position : ℕ

-- a chunk's 33 bytes
abbrev pub chunk_bytes : Chunk → Bytes
chunk_bytes c = c.hash ++ c.position ∷ []

-- the hash of the chunk at a position, or zero
abbrev pub hash_at : List Chunk → ℕ → Hash
hash_at chunks b = option_map_or (λ c. c.hash) (find (λ c. c.position == b) chunks) zero_hash

pub record IsChunk (c : Chunk) : Type 0 where
  pub size : length c.hash ≡ 32
  pub nonzero : IsTrue (is_nonzero c.hash)
  pub below : c.position < 16

-- the chunks are the branches that aren't empty, in any order
pub record AreChunksOf (hashes : List Hash) (chunks : List Chunk) : Type 0 where
  pub each : AllByRecursion IsChunk chunks
  pub positions_differ : AllPairs (λ c d. c.position ≢ d.position) chunks
  pub same : (b : ℕ) → b < 16 → slice_index_or hashes b zero_hash ≡ hash_at chunks b

-- w is a wire form of the node
abbrev pub Wire : Half → Held → Bytes → Type 0
Wire half (leaf Set key bytes) w = IsHeld half (leaf Set key bytes) × (w ≡ bytes ++ 0 ∷ [])
Wire half (leaf State key bytes) w = IsHeld half (leaf State key bytes) × (w ≡ bytes ++ key ++ 1 ∷ [])
Wire half (leaf Tx key bytes) w = IsHeld half (leaf Tx key bytes) × (w ≡ bytes ++ key ++ 4 ∷ [])
Wire half (inner hashes) w = IsHeld half (inner hashes)
    × ((w ≡ concat hashes ++ 2 ∷ []) ⊎ ((chunks : List Chunk) × AreChunksOf hashes chunks × (w ≡ flat_map chunk_bytes chunks ++ 3 ∷ [])))
Wire half (header bytes) w = ⊥

-- the branches that aren't empty, positions rising
abbrev pub chunks_of : List Hash → List Chunk
chunks_of hashes = filter (λ c. is_nonzero c.hash) (map (λ b. record { hash = slice_index_or hashes b zero_hash; position = b }) branches)

-- the wire form that is written: compressed where fewer than twelve branches aren't empty
abbrev pub wire_of : Held → Bytes
wire_of (leaf Set key bytes) = bytes ++ 0 ∷ []
wire_of (leaf State key bytes) = bytes ++ key ++ 1 ∷ []
wire_of (leaf Tx key bytes) = bytes ++ key ++ 4 ∷ []
wire_of (inner hashes) =
    if nat_lt (count_by is_nonzero hashes) 12 then flat_map chunk_bytes (chunks_of hashes) ++ 3 ∷ [] else concat hashes ++ 2 ∷ []
wire_of (header bytes) = []

-- The causes for which a wire form is refused, by their numbers. The first that applies, in the order in which they are
-- tried below, is the answer: 1 no byte at all; 2 an unknown type; 3 a full inner node's length; 4 the length of chunks;
-- chunk by chunk 5 a position of 16 or more, 6 a position that an earlier chunk had, 7 a zero hash; 8 no branch that
-- isn't empty; 9 a leaf shorter than its key; 11 too much data; 10 a zero key

-- a leaf with its key, or why it is none
abbrev pub checked_leaf : Kind → Hash → Bytes → Result Held ℕ
checked_leaf kind key bytes = if nat_lt data_limit (length bytes) then Err 11 else if is_zero key then Err 10 else Ok (leaf kind key bytes)

-- a leaf whose key stands behind its data
abbrev pub keyed_leaf : Kind → Bytes → Result Held ℕ
keyed_leaf kind front =
    if nat_lt (length front) 32 then Err 9
    else checked_leaf kind (drop (length front - 32) front) (take (length front - 32) front)

-- an inner node, or why it is none
abbrev pub checked_inner : List Hash → Result Held ℕ
checked_inner hashes = if list_any is_nonzero hashes then Ok (inner hashes) else Err 8

-- the first n chunks of 33 bytes
abbrev pub chunks_in : ℕ → Bytes → List Chunk
chunks_in zero bytes = []
chunks_in (suc n) bytes = record { hash = take 32 bytes; position = slice_index bytes 32 } ∷ chunks_in n (drop 33 bytes)

-- the first fault of the chunks, after these positions; zero where there is none
abbrev pub chunk_cause : List ℕ → List Chunk → ℕ
chunk_cause before [] = 0
chunk_cause before (c ∷ rest) =
    if not (nat_lt c.position 16) then 5
    else if list_any (λ p. p == c.position) before then 6
    else if is_zero c.hash then 7
    else chunk_cause (c.position ∷ before) rest

-- the chunks of a compressed inner node
abbrev pub compressed : Bytes → Result Held ℕ
compressed front =
    let chunks = chunks_in (length front / 33) front in
    if not (length front % 33 == 0) then Err 4
    else if not (chunk_cause [] chunks == 0) then Err (chunk_cause [] chunks)
    else checked_inner (map (hash_at chunks) branches)

-- the sixteen hashes of a full inner node
abbrev pub full : Bytes → Result Held ℕ
full front = if not (length front == 512) then Err 3 else checked_inner (hashes_of 16 front)

-- what stands before the type byte, read by the type
abbrev pub read_typed : Half → Bytes → ℕ → Result Held ℕ
read_typed half front type =
    if type == 0 then checked_leaf Set (half (leaf_form Set zero_hash front)) front
    else if type == 1 then keyed_leaf State front
    else if type == 2 then full front
    else if type == 3 then compressed front
    else if type == 4 then keyed_leaf Tx front
    else Err 2

-- the node of a wire form, or the number of the first cause that applies
unfoldable pub read_wire : Half → Bytes → Result Held ℕ
read_wire half w = if length w == 0 then Err 1 else read_typed half (take (length w - 1) w) (slice_index w (length w - 1))
