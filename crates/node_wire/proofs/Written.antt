-- The chunks that are written of an inner node are its branches that aren't empty.
use Rattle.std.proofs.Common.{◌≡◌, ◌≢◌, ◌<◌, ◌≤◌, ◌+◌, ◌==◌, ℕ, zero, suc, Bool, true, false, cond, List, [], ◌∷◌, ◌++◌, map, length}
use Rattle.std.proofs.Common.{get_or}
use Rattle.std.proofs.Common.{IsTrue, Option, None, Some, refl, sym, ap, ◌∙◌, arith}
use Rattle.std.proofs.Common.{replicate}
use Rattle.std.specs.Option.{option_map_or}
use Rattle.std.specs.List.{filter, find, flat_map, list_all, range_with_len, AllPairs, AllByRecursion}
use Rattle.std.proofs.lemmas.Bool.{and_parts, cond-false, cond-true, eqb-true, eqb-false, ne_eqb, not-false}
use Rattle.std.proofs.lemmas.List.Concat.{flat_map-append}
use Rattle.std.proofs.lemmas.List.FromFn.{filter_of_map_range_with_len_more, get_or-map-range_with_len, length-map-range_with_len}
use Rattle.std.proofs.lemmas.List.Kept.{AllPairs-filter}
use Rattle.ledger_spec.specs.Bytes.{Bytes, Hash, is_nonzero, is_zero, zero_hash}
use Rattle.ledger_spec.specs.Forms.{IsInner}
use Rattle.ledger_spec.specs.Wire.{Chunk, IsChunk, AreChunksOf, chunk_bytes, chunks_of, hash_at}
use Rattle.node_wire.proofs.ChunkLists.{made}

abbrev branch : List Hash → ℕ → Hash
branch hashes b = get_or hashes b zero_hash

abbrev pub chunk_at : List Hash → ℕ → Chunk
chunk_at hashes b = record { hash = get_or hashes b zero_hash; position = b }

abbrev pub is_kept : Chunk → Bool
is_kept c = is_nonzero c.hash

-- the chunks of some branches in turn
abbrev pub chunks_from : List Hash → ℕ → ℕ → List Chunk
chunks_from hashes a n = filter is_kept (map (chunk_at hashes) (range_with_len a n))

-- a hash whose bytes are zero is the zero hash
zeros : (h : List ℕ) → is_zero h ≡ true → h ≡ replicate (length h) 0
zeros [] e = refl
zeros (x ∷ h) e =
    let both = and_parts (x == 0) (is_zero h) e in
    ap (λ y. y ∷ h) (eqb-true x 0 both.0) ∙ ap (λ t. 0 ∷ t) (zeros h both.1)

zero_is : (h : Hash) → length h ≡ 32 → is_zero h ≡ true → h ≡ zero_hash
zero_is h size e = zeros h e ∙ ap (λ n. replicate n 0) size

size_at : (hashes : List Hash) → IsTrue (list_all (λ h. length h == 32) hashes) → (b : ℕ) → length (branch hashes b) ≡ 32
size_at [] sizes b = refl
size_at (h ∷ hashes) sizes zero = eqb-true (length h) 32 (and_parts (length h == 32) (list_all (λ h. length h == 32) hashes) sizes).0
size_at (h ∷ hashes) sizes (suc b) = size_at hashes (and_parts (length h == 32) (list_all (λ h. length h == 32) hashes) sizes).1 b

module _ (hashes : List Hash) (sizes : IsTrue (list_all (λ h. length h == 32) hashes)) where
  are_chunks : (a n : ℕ) → a + n ≤ 16 → AllByRecursion IsChunk (chunks_from hashes a n)
  are_chunks a zero within = tt
  are_chunks a (suc n) within = by_test (is_kept (chunk_at hashes a)) refl (are_chunks (a + 1) n (omega arith))
    where
      by_test : (t : Bool) → is_kept (chunk_at hashes a) ≡ t → AllByRecursion IsChunk (chunks_from hashes (a + 1) n)
          → AllByRecursion IsChunk (cond t (chunk_at hashes a ∷ chunks_from hashes (a + 1) n) (chunks_from hashes (a + 1) n))
      by_test true some later = (record { size = size_at hashes sizes a; nonzero = some; below = omega arith }, later)
      by_test false none later = later

  nowhere : (a n b : ℕ) → b < a → find (λ c. c.position == b) (chunks_from hashes a n) ≡ None
  nowhere a zero b lt = refl
  nowhere a (suc n) b lt = by_test (is_kept (chunk_at hashes a)) (nowhere (a + 1) n b (omega arith))
    where
      by_test : (t : Bool) → find (λ c. c.position == b) (chunks_from hashes (a + 1) n) ≡ None
          → find (λ c. c.position == b) (cond t (chunk_at hashes a ∷ chunks_from hashes (a + 1) n) (chunks_from hashes (a + 1) n)) ≡ None
      by_test true later = cond-false (a == b) _ _ (ne_eqb a b (omega arith)) ∙ later
      by_test false later = later

  abbrev got : Option Chunk → Hash
  got o = option_map_or (λ c. c.hash) o zero_hash

  -- a branch that is empty has no chunk, so its hash is zero either way
  somewhere : (a n b : ℕ) → a ≤ b → b < a + n → hash_at (chunks_from hashes a n) b ≡ branch hashes b
  somewhere a zero b le lt = absurd (omega arith)
  somewhere a (suc n) b le lt =
      by_place (a == b) refl
      (λ other. let no_place : (a ≡ b) → ⊥ = eqb-false a b other in somewhere (a + 1) n b (omega arith) (omega arith))
    where
      here : a ≡ b → (a == b) ≡ true → (t : Bool) → is_kept (chunk_at hashes a) ≡ t
          → hash_at (cond t (chunk_at hashes a ∷ chunks_from hashes (a + 1) n) (chunks_from hashes (a + 1) n)) b ≡ branch hashes b
      here same e true some =
          ap got (cond-true (a == b) (Some (chunk_at hashes a)) (find (λ c. c.position == b) (chunks_from hashes (a + 1) n)) e)
          ∙ ap (branch hashes) same
      here same e false none =
          ap got (nowhere (a + 1) n b (omega (arith, same)))
          ∙ sym (ap (branch hashes) (sym same)
          ∙ zero_is (branch hashes a) (size_at hashes sizes a) (not-false (is_zero (branch hashes a)) none))

      away : (a == b) ≡ false → hash_at (chunks_from hashes (a + 1) n) b ≡ branch hashes b → (t : Bool)
          → hash_at (cond t (chunk_at hashes a ∷ chunks_from hashes (a + 1) n) (chunks_from hashes (a + 1) n)) b ≡ branch hashes b
      away e later true =
          ap got (cond-false (a == b) (Some (chunk_at hashes a)) (find (λ c. c.position == b) (chunks_from hashes (a + 1) n)) e) ∙ later
      away e later false = later

      by_place : (t : Bool) → (a == b) ≡ t → ((a == b) ≡ false → hash_at (chunks_from hashes (a + 1) n) b ≡ branch hashes b)
          → hash_at (chunks_from hashes a (suc n)) b ≡ branch hashes b
      by_place true e later = here (eqb-true a b e) e (is_kept (chunk_at hashes a)) refl
      by_place false e later = away e (later e) (is_kept (chunk_at hashes a))

-- chunks of rising positions
all_differ : (hashes : List Hash) (n : ℕ) → AllPairs (λ c d. c.position ≢ d.position) (map (chunk_at hashes) (range_with_len 0 n))
all_differ hashes n = λ i j d lt within.
    let size : length (map (chunk_at hashes) (range_with_len 0 n)) ≡ n = length-map-range_with_len (chunk_at hashes) 0 n in
    let first : get_or (map (chunk_at hashes) (range_with_len 0 n)) i d ≡ chunk_at hashes i =
    get_or-map-range_with_len (chunk_at hashes) 0 n i i d (omega (arith, size)) (omega arith)
    in
    let second : get_or (map (chunk_at hashes) (range_with_len 0 n)) j d ≡ chunk_at hashes j =
    get_or-map-range_with_len (chunk_at hashes) 0 n j j d (omega (arith, size)) (omega arith)
    in
    λ e. let same : i ≡ j = sym (ap (λ (c : Chunk). c.position) first) ∙ e ∙ ap (λ (c : Chunk). c.position) second in omega (arith, same)

pub chunks_are : (hashes : List Hash) → IsInner hashes → AreChunksOf hashes (chunks_of hashes)
chunks_are hashes is = record {
  each = are_chunks hashes is.sizes 0 16 (omega arith);
  positions_differ = AllPairs-filter (λ c d. c.position ≢ d.position) is_kept (map (chunk_at hashes) (range_with_len 0 16))
      (all_differ hashes 16);
  same = λ b lt. sym (somewhere hashes is.sizes 0 16 b (omega arith) (omega arith));
}

-- one branch more
pub one_more : (hashes : List Hash) (b : ℕ) (h : Hash) (bytes more : Bytes) → bytes ≡ flat_map chunk_bytes (chunks_from hashes 0 b)
    → h ≡ branch hashes b
    → more ≡ bytes ++ flat_map chunk_bytes (filter is_kept (made h b ∷ [])) → more ≡ flat_map chunk_bytes (chunks_from hashes 0 (b + 1))
one_more hashes b h bytes more before is added =
    added ∙ ap (λ x. x ++ flat_map chunk_bytes (filter is_kept (made h b ∷ []))) before
    ∙ ap (λ k. flat_map chunk_bytes (chunks_from hashes 0 b) ++ flat_map chunk_bytes (filter is_kept (made k b ∷ []))) is
    ∙ sym (flat_map-append chunk_bytes (chunks_from hashes 0 b) (filter is_kept (chunk_at hashes b ∷ [])))
    ∙ sym (ap (flat_map chunk_bytes) (filter_of_map_range_with_len_more is_kept (chunk_at hashes) 0 b b (omega arith)))

pub all_chunks : (hashes : List Hash) (b : ℕ) (bytes : Bytes) → b ≡ 16 → bytes ≡ flat_map chunk_bytes (chunks_from hashes 0 b)
    → bytes ≡ flat_map chunk_bytes (chunks_of hashes)
all_chunks hashes b bytes end is = is ∙ ap (λ n. flat_map chunk_bytes (chunks_from hashes 0 n)) end
