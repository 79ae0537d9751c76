-- Chunks of 33 bytes, joined and taken apart, and what makes them the branches of one inner node.
use Rattle.std.proofs.Common.{◌≡◌, ◌≢◌, ◌<◌, ◌*◌, ◌==◌, not, ℕ, zero, suc, Bool, true, false, if◌then◌else◌, List, [], ◌∷◌, ◌++◌}
use Rattle.std.proofs.Common.{length, take, drop, get_or, nat_lt, refl, sym, ap, ◌∙◌, arith, length-append, length-drop}
use Rattle.std.specs.Prelude.{slice_index}
use Rattle.std.specs.List.{flat_map, list_any, AllPairs, AllByRecursion}
use Rattle.std.proofs.lemmas.Bool.{eqb-false, lt-ltb, ltb-true, ne_eqb, not-true}
use Rattle.std.proofs.lemmas.Bool.{or_from, or_parts}
use Rattle.std.proofs.lemmas.List.{append_assoc, drop_at, get_or_at, nil_from_length, take-append-drop, take_at, take_more}
use Rattle.std.proofs.lemmas.List.Kept.{AllPairs-cons}
use Rattle.ledger_spec.specs.Bytes.{Bytes, Hash, is_zero}
use Rattle.ledger_spec.specs.Wire.{Chunk, IsChunk, chunk_bytes, chunks_in, chunk_cause}
use Rattle.node_wire.specs.Chunks.{chunk_in}

abbrev pub made : Hash → ℕ → Chunk
made h p = record { hash = h; position = p }

-- a fact of each element, by its place
pub all_at : {X : Type 0} (P : X → Type 0) (xs : List X) → AllByRecursion P xs → (i : ℕ) (d : X) → i < length xs → P (get_or xs i d)
all_at P [] all i d lt = absurd (omega arith)
all_at P (x ∷ xs) all zero d lt = all.0
all_at P (x ∷ xs) all (suc i) d lt = all_at P xs all.1 i d (omega arith)

pub all_from : {X : Type 0} (P : X → Type 0) (xs : List X) → ((i : ℕ) (d : X) → i < length xs → P (get_or xs i d)) → AllByRecursion P xs
all_from P [] each = tt
all_from P (x ∷ xs) each = (each 0 x (omega arith), all_from P xs (λ i d lt. each (suc i) d (omega arith)))

pairs_head : {X : Type 0} (R : X → X → Type 0) (x : X) (xs : List X) → AllPairs R (x ∷ xs) → AllByRecursion (R x) xs
pairs_head R x xs pairs = all_from (R x) xs (λ i d lt. pairs 0 (suc i) d (omega arith) (omega arith))

pairs_tail : {X : Type 0} (R : X → X → Type 0) (x : X) (xs : List X) → AllPairs R (x ∷ xs) → AllPairs R xs
pairs_tail R x xs pairs = λ i j d lt within. pairs (suc i) (suc j) d (omega arith) (omega arith)

-- a chunk before other bytes
pub chunk_size : (c : Chunk) → length c.hash ≡ 32 → length (chunk_bytes c) ≡ 33
chunk_size c size = omega (arith, size, length-append c.hash (c.position ∷ []))

chunk_back : (c : Chunk) (rest : Bytes) → length c.hash ≡ 32 → chunk_in (chunk_bytes c ++ rest) ≡ c
chunk_back c rest size =
    let hash : take 32 (chunk_bytes c ++ rest) ≡ c.hash =
    ap (take 32) (append_assoc c.hash (c.position ∷ []) rest) ∙ take_at c.hash (c.position ∷ rest) 32 size
    in
    let position : slice_index (chunk_bytes c ++ rest) 32 ≡ c.position =
    ap (λ b. slice_index b 32) (append_assoc c.hash (c.position ∷ []) rest) ∙ get_or_at c.hash c.position rest 0 32 size
    in
    ap (λ h. made h (slice_index (chunk_bytes c ++ rest) 32)) hash ∙ ap (made c.hash) position

rest_back : (c : Chunk) (rest : Bytes) → length c.hash ≡ 32 → drop 33 (chunk_bytes c ++ rest) ≡ rest
rest_back c rest size = drop_at (chunk_bytes c) rest 33 (chunk_size c size)

-- chunks that are joined are read back
pub length-chunks : (chunks : List Chunk) → AllByRecursion IsChunk chunks → length (flat_map chunk_bytes chunks) ≡ 33 * length chunks
length-chunks [] all = refl
length-chunks (c ∷ chunks) all =
    omega (arith, length-append (chunk_bytes c) (flat_map chunk_bytes chunks), chunk_size c all.0.size, length-chunks chunks all.1)

pub chunks_back : (chunks : List Chunk) → AllByRecursion IsChunk chunks → chunks_in (length chunks) (flat_map chunk_bytes chunks) ≡ chunks
chunks_back [] all = refl
chunks_back (c ∷ chunks) all =
    ap (λ d. d ∷ chunks_in (length chunks) (drop 33 (chunk_bytes c ++ flat_map chunk_bytes chunks)))
    (chunk_back c (flat_map chunk_bytes chunks) all.0.size)
    ∙ ap (λ b. c ∷ chunks_in (length chunks) b) (rest_back c (flat_map chunk_bytes chunks) all.0.size)
    ∙ ap (λ l. c ∷ l) (chunks_back chunks all.1)

-- bytes that are read as chunks are those chunks, joined
pub joined_back : (n : ℕ) (b : Bytes) → length b ≡ 33 * n → flat_map chunk_bytes (chunks_in n b) ≡ b
joined_back zero b size = sym (nil_from_length b size)
joined_back (suc n) b size =
    let more : 32 < length b = omega arith in
    let less : length (drop 33 b) ≡ 33 * n = omega (arith, length-drop 33 b) in
    ap (λ t. t ++ flat_map chunk_bytes (chunks_in n (drop 33 b))) (sym (take_more b 32 0 more))
    ∙ ap (λ t. take 33 b ++ t) (joined_back n (drop 33 b) less)
    ∙ take-append-drop 33 b

pub length-chunks_in : (n : ℕ) (b : Bytes) → length (chunks_in n b) ≡ n
length-chunks_in zero b = refl
length-chunks_in (suc n) b = ap suc (length-chunks_in n (drop 33 b))

-- what the tests of a chunk say where there is no cause
record IsTaken (before : List ℕ) (c : Chunk) (rest : List Chunk) : Type 0 where
  low : nat_lt c.position 16 ≡ true
  fresh : list_any (λ p. p == c.position) before ≡ false
  some : is_zero c.hash ≡ false
  later : chunk_cause (c.position ∷ before) rest ≡ 0

taken_tests : (a b z : Bool) (n : ℕ) → (if not a then 5 else if b then 6 else if z then 7 else n) ≡ 0 → (a ≡ true) × (b ≡ false)
    × (z ≡ false) × (n ≡ 0)
taken_tests false b z n e = let no : 5 ≡ 0 = e in absurd (omega (arith, no))
taken_tests true true z n e = let no : 6 ≡ 0 = e in absurd (omega (arith, no))
taken_tests true false true n e = let no : 7 ≡ 0 = e in absurd (omega (arith, no))
taken_tests true false false n e = (refl, refl, refl, e)

is_taken : (before : List ℕ) (c : Chunk) (rest : List Chunk) → chunk_cause before (c ∷ rest) ≡ 0 → IsTaken before c rest
is_taken before c rest e =
    let t = taken_tests (nat_lt c.position 16) (list_any (λ p. p == c.position) before) (is_zero c.hash)
    (chunk_cause (c.position ∷ before) rest) e in
    record { low = t.0; fresh = t.1; some = t.2; later = t.3 }

-- chunks without a cause are chunks
pub are_chunks : (before : List ℕ) (chunks : List Chunk) → chunk_cause before chunks ≡ 0 → AllByRecursion (λ c. length c.hash ≡ 32) chunks
    → AllByRecursion IsChunk chunks
are_chunks before [] clean sizes = tt
are_chunks before (c ∷ chunks) clean sizes =
    let t = is_taken before c chunks clean in (
      record { size = sizes.0; nonzero = ap not t.some; below = ltb-true c.position 16 t.low },
      are_chunks (c.position ∷ before) chunks
          t.later sizes.1,
    )

-- at positions that no chunk before has
abbrev Fresh : List ℕ → List Chunk → Type 0
Fresh before chunks = AllByRecursion (λ c. list_any (λ p. p == c.position) before ≡ false) chunks

are_fresh : (before : List ℕ) (chunks : List Chunk) → chunk_cause before chunks ≡ 0 → Fresh before chunks
are_fresh before [] clean = tt
are_fresh before (c ∷ chunks) clean =
    let t = is_taken before c chunks clean in
    (t.fresh, weaken chunks (are_fresh (c.position ∷ before) chunks t.later))
  where
    weaken : (rest : List Chunk) → Fresh (c.position ∷ before) rest → Fresh before rest
    weaken [] all = tt
    weaken (d ∷ rest) all = ((or_parts (c.position == d.position) (list_any (λ p. p == d.position) before) all.0).1, weaken rest all.1)

other_positions : (p : ℕ) (before : List ℕ) (chunks : List Chunk) → Fresh (p ∷ before) chunks → AllByRecursion (λ d. p ≢ d.position) chunks
other_positions p before [] all = tt
other_positions p before (d ∷ chunks) all = (
  eqb-false p d.position (or_parts (p == d.position) (list_any (λ q. q == d.position) before) all.0).0,
  other_positions p before chunks
      all.1,
)

pub positions_differ : (before : List ℕ) (chunks : List Chunk) → chunk_cause before chunks ≡ 0
    → AllPairs (λ c d. c.position ≢ d.position) chunks
positions_differ before [] clean = λ i j d lt within. absurd (omega arith)
positions_differ before (c ∷ chunks) clean =
    let t = is_taken before c chunks clean in
    AllPairs-cons (λ c d. c.position ≢ d.position) c chunks
    (all_at (λ d. c.position ≢ d.position) chunks
    (other_positions c.position before chunks (are_fresh (c.position ∷ before) chunks t.later)))
    (positions_differ (c.position ∷ before) chunks t.later)

-- and chunks at different positions have no cause
fresh_more : (p : ℕ) (before : List ℕ) (chunks : List Chunk) → Fresh before chunks → AllByRecursion (λ d. p ≢ d.position) chunks
    → Fresh (p ∷ before) chunks
fresh_more p before [] fresh other = tt
fresh_more p before (d ∷ chunks) fresh other = (
  or_from (p == d.position) (list_any (λ q. q == d.position) before) (ne_eqb p d.position other.0) fresh.0,
  fresh_more p before chunks
      fresh.1 other.1,
)

no_cause : (before : List ℕ) (chunks : List Chunk) → AllByRecursion IsChunk chunks → AllPairs (λ c d. c.position ≢ d.position) chunks
    → Fresh before chunks
    → chunk_cause before chunks ≡ 0
no_cause before [] each differ fresh = refl
no_cause before (c ∷ chunks) each differ fresh =
    let low : nat_lt c.position 16 ≡ true = lt-ltb c.position 16 each.0.below in
    let some : is_zero c.hash ≡ false = not-true (is_zero c.hash) each.0.nonzero in
    let later : chunk_cause (c.position ∷ before) chunks ≡ 0 =
    no_cause (c.position ∷ before) chunks each.1 (pairs_tail (λ c d. c.position ≢ d.position) c chunks differ)
    (fresh_more c.position before chunks fresh.1 (pairs_head (λ c d. c.position ≢ d.position) c chunks differ))
    in
    rw (low, fresh.0, some) later

all_fresh : (chunks : List Chunk) → Fresh [] chunks
all_fresh [] = tt
all_fresh (c ∷ chunks) = (refl, all_fresh chunks)

pub no_chunk_cause : (chunks : List Chunk) → AllByRecursion IsChunk chunks → AllPairs (λ c d. c.position ≢ d.position) chunks
    → chunk_cause [] chunks ≡ 0
no_chunk_cause chunks each differ = no_cause [] chunks each differ (all_fresh chunks)
