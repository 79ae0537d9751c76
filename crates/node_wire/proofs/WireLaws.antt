-- Bytes are a wire form of the node that is read of them, and of no other; what is written of a node is read as it.
use Rattle.std.proofs.Common.{◌≡◌, ◌≢◌, ◌⊎◌, inl, inr, ◌+◌, ◌-◌, ◌*◌, ◌/◌, ◌%◌, ◌==◌, not, ℕ, Bool, true, false, if◌then◌else◌}
use Rattle.std.proofs.Common.{List, [], ◌∷◌, ◌++◌}
use Rattle.std.proofs.Common.{length, take, drop, map, nat_lt, IsTrue, Result, Ok, Err, IfOk, IfErr}
use Rattle.std.proofs.Common.{MatchResult, refl, sym, ap, ◌∙◌, subst}
use Rattle.std.proofs.Common.{arith, length-drop}
use Rattle.std.specs.Prelude.{slice_index}
use Rattle.std.specs.List.{concat, count_by, flat_map}
use Rattle.std.proofs.lemmas.Bool.{cond-false, eq-eqb, eqb-true, false≢true}
use Rattle.std.proofs.lemmas.List.{length-map, take_all, take-append-drop}
use Rattle.std.proofs.lemmas.List.FromFn.{fill_by_all, get_or-map-range_with_len}
use Rattle.std.proofs.lemmas.Nat.{div-mul-add, mod-mul-add}
use Rattle.ledger_spec.specs.declared.Kind.TheVariants.{State, Tx, Set}
use Rattle.ledger_spec.specs.Bytes.{Bytes, Hash, Half, branches, hashes_of, is_nonzero, zero_hash}
use Rattle.ledger_spec.specs.Forms.{Held, inner, leaf, header, IsHeld, IsInner, IsItem, leaf_form}
use Rattle.ledger_spec.specs.Wire.{Chunk, AreChunksOf, Wire, chunk_bytes, chunk_cause, chunks_in, chunks_of, compressed, checked_inner}
use Rattle.ledger_spec.specs.Wire.{checked_leaf, full, hash_at, keyed_leaf}
use Rattle.ledger_spec.specs.Wire.{read_typed, read_wire, wire_of}
use Rattle.ledger_spec.proofs.shared.OfferLaws.{chunk_sizes, hash_by_chunks, sizes_map, whole_size}
use Rattle.ledger_spec.proofs.shared.Hashes.{concat-hashes_of, hashes_of-concat, length-concat, length-hashes_of, sizes-hashes_of}
use Rattle.shamap_node.specs.Laws.{is_node}
use Rattle.shamap_node.specs.declared.Node.{Node}
use Rattle.shamap_node.specs.Nodes.{held}
use Rattle.node_wire.specs.Faults.{code}
use Rattle.node_wire.specs.Laws.{OneNode, ReadByWire, WrittenIsRead}
use Rattle.node_wire.specs.declared.fault.WireFault.{WireFault}
use Rattle.node_wire.specs.declared.fault.WireFault.TheVariants as faults
use Rattle.node_wire.proofs.ChunkLists.{are_chunks, chunks_back, joined_back, length-chunks, no_chunk_cause, positions_differ}
use Rattle.node_wire.proofs.Wires.{IsFull, IsInnerOf, IsKeyed, ends_in, full_of, inner_by, inner_is, keyed_is, keyed_of}
use Rattle.node_wire.proofs.Wires.{leaf_is, leaf_of, read_empty, read_front, read_is, refusal}
use Rattle.node_wire.proofs.Wires.{no_node, refusal}
use Rattle.node_wire.proofs.Written.{chunks_are}

-- an inner node of chunks: what its tests say
record IsCompressed (front : Bytes) (n : Held) : Type 0 where
  whole : length front % 33 ≡ 0
  clean : chunk_cause [] (chunks_in (length front / 33) front) ≡ 0
  parts : IsInnerOf (map (hash_at (chunks_in (length front / 33) front)) branches) n

compressed_of : (front : Bytes) (n : Held) → compressed front ≡ Ok n → IsCompressed front n
compressed_of front n e = by_tests (length front % 33 == 0) refl (chunk_cause [] (chunks_in (length front / 33) front) == 0) refl e
  where
    by_tests : (a : Bool) → (length front % 33 == 0) ≡ a → (b : Bool) → (chunk_cause [] (chunks_in (length front / 33) front) == 0) ≡ b
        → (if not a then refusal 4 else if not b then refusal (chunk_cause [] (chunks_in (length front / 33) front))
        else checked_inner (map (hash_at (chunks_in (length front / 33) front)) branches)) ≡ Ok n
        → IsCompressed front n
    by_tests false whole b clean e = no_node 4 n e
    by_tests true whole false clean e = no_node (chunk_cause [] (chunks_in (length front / 33) front)) n e
    by_tests true whole true clean e = record {
      whole = eqb-true (length front % 33) 0 whole;
      clean = eqb-true (chunk_cause [] (chunks_in (length front / 33) front)) 0 clean;
      parts = inner_by (map (hash_at (chunks_in (length front / 33) front)) branches) n e;
    }

-- what is read is a wire form
module _ (half : Half) (sized : (x : Bytes) → length (half x) ≡ 32) (front w : Bytes) (n : Held) where
  bare_wire : w ≡ front ++ 0 ∷ [] → checked_leaf Set (half (leaf_form Set zero_hash front)) front ≡ Ok n → Wire half n w
  bare_wire is e =
      let key : Hash = half (leaf_form Set zero_hash front) in
      let parts = leaf_of Set (half (leaf_form Set zero_hash front)) front n e in
      let item : IsItem (half (leaf_form Set zero_hash front)) front =
      record { key_size = sized (leaf_form Set zero_hash front); key_nonzero = parts.nonzero; data_size = parts.within }
      in
      subst (λ m. Wire half m w) (sym parts.node) ((item, refl), is)

  keyed_parts : IsKeyed State front n ⊎ IsKeyed Tx front n → IsItem (drop (length front - 32) front) (take (length front - 32) front)
  keyed_parts (inl k) = record {
    key_size = length-drop (length front - 32) front ∙ omega (arith, k.long);
    key_nonzero = k.parts.nonzero;
    data_size = k.parts.within;
  }
  keyed_parts (inr k) = record {
    key_size = length-drop (length front - 32) front ∙ omega (arith, k.long);
    key_nonzero = k.parts.nonzero;
    data_size = k.parts.within;
  }

  -- the data and the key before the type byte
  both : (t : ℕ) → w ≡ front ++ t ∷ [] → w ≡ take (length front - 32) front ++ drop (length front - 32) front ++ t ∷ []
  both t is = is ∙ ap (λ f. f ++ t ∷ []) (sym (take-append-drop (length front - 32) front))

  state_wire : w ≡ front ++ 1 ∷ [] → keyed_leaf State front ≡ Ok n → Wire half n w
  state_wire is e =
      let k : IsKeyed State front n = keyed_of State front n e in
      subst (λ m. Wire half m w) (sym k.parts.node) (keyed_parts (inl k), both 1 is)

  tx_wire : w ≡ front ++ 4 ∷ [] → keyed_leaf Tx front ≡ Ok n → Wire half n w
  tx_wire is e =
      let k : IsKeyed Tx front n = keyed_of Tx front n e in
      subst (λ m. Wire half m w) (sym k.parts.node) (keyed_parts (inr k), both 4 is)

  full_wire : w ≡ front ++ 2 ∷ [] → full front ≡ Ok n → Wire half n w
  full_wire is e =
      let f : IsFull front n = full_of front n e in
      let own : IsInner (hashes_of 16 front) = record {
        count = length-hashes_of 16 front;
        sizes = sizes-hashes_of 16 front (omega (arith, f.size));
        some = f.parts.some;
      } in
      let joined : concat (hashes_of 16 front) ≡ front = concat-hashes_of 16 front ∙ take_all 512 front (omega (arith, f.size)) in
      subst (λ m. Wire half m w) (sym f.parts.node) (own, inl (is ∙ ap (λ b. b ++ 2 ∷ []) (sym joined)))

  compressed_wire : w ≡ front ++ 3 ∷ [] → compressed front ≡ Ok n → Wire half n w
  compressed_wire is e =
      let c : IsCompressed front n = compressed_of front n e in
      let size : length front ≡ 33 * (length front / 33) = whole_size (length front) c.whole in
      let sizes = chunk_sizes (length front / 33) front size in
      let own : IsInner (map (hash_at (chunks_in (length front / 33) front)) branches) = record {
        count = length-map branches (hash_at (chunks_in (length front / 33) front));
        sizes = sizes_map (hash_at (chunks_in (length front / 33) front)) branches
            (hash_by_chunks (λ h. length h ≡ 32) (chunks_in (length front / 33) front) sizes refl);
        some = c.parts.some;
      } in
      let are : AreChunksOf (map (hash_at (chunks_in (length front / 33) front)) branches) (chunks_in (length front / 33) front) = record {
        each = are_chunks [] (chunks_in (length front / 33) front) c.clean sizes;
        positions_differ = positions_differ [] (chunks_in (length front / 33) front) c.clean;
        same = λ b lt. get_or-map-range_with_len (hash_at (chunks_in (length front / 33) front)) 0 16 b b zero_hash lt (omega arith);
      } in
      let joined : flat_map chunk_bytes (chunks_in (length front / 33) front) ≡ front = joined_back (length front / 33) front size in
      subst (λ m. Wire half m w) (sym c.parts.node)
      (own, inr (chunks_in (length front / 33) front, are, is ∙ ap (λ b. b ++ 3 ∷ []) (sym joined)))

  typed_wire : (t : ℕ) → w ≡ front ++ t ∷ [] → read_typed half front t ≡ Ok n → Wire half n w
  typed_wire t is e = by_0 (t == 0) refl e
    where
      at : (u : ℕ) → (t == u) ≡ true → w ≡ front ++ u ∷ []
      at u same = is ∙ ap (λ v. front ++ v ∷ []) (eqb-true t u same)

      by_4 : (a : Bool) → (t == 4) ≡ a → (if a then keyed_leaf Tx front else refusal 2) ≡ Ok n → Wire half n w
      by_4 true same e = tx_wire (at 4 same) e
      by_4 false other e = no_node 2 n e

      by_3 : (a : Bool) → (t == 3) ≡ a → (if a then compressed front else if t == 4 then keyed_leaf Tx front else refusal 2) ≡ Ok n
          → Wire half n w
      by_3 true same e = compressed_wire (at 3 same) e
      by_3 false other e = by_4 (t == 4) refl e

      by_2 : (a : Bool) → (t == 2) ≡ a
          → (if a then full front else if t == 3 then compressed front else if t == 4 then keyed_leaf Tx front else refusal 2) ≡ Ok n
          → Wire half n w
      by_2 true same e = full_wire (at 2 same) e
      by_2 false other e = by_3 (t == 3) refl e

      by_1 : (a : Bool) → (t == 1) ≡ a
          → (if a then keyed_leaf State front else if t == 2 then full front else if t == 3 then compressed front
          else if t == 4 then keyed_leaf Tx front else refusal 2) ≡ Ok n
          → Wire half n w
      by_1 true same e = state_wire (at 1 same) e
      by_1 false other e = by_2 (t == 2) refl e

      by_0 : (a : Bool) → (t == 0) ≡ a
          → (if a then checked_leaf Set (half (leaf_form Set zero_hash front)) front else if t == 1 then keyed_leaf State front
          else if t == 2 then full front else if t == 3 then compressed front else if t == 4 then keyed_leaf Tx front else refusal 2) ≡ Ok n
          → Wire half n w
      by_0 true same e = bare_wire (at 0 same) e
      by_0 false other e = by_1 (t == 1) refl e

pub read_wires : (half : Half) → ((x : Bytes) → length (half x) ≡ 32) → (n : Held) (w : Bytes) → read_wire half w ≡ Ok n → Wire half n w
read_wires half sized n w e = by_size (length w == 0) refl
  where
    by_size : (a : Bool) → (length w == 0) ≡ a → Wire half n w
    by_size true none = no_node 1 n (sym (read_empty half w none) ∙ e)
    by_size false long =
        typed_wire half sized (take (length w - 1) w) w n (slice_index w (length w - 1)) (ends_in w long)
        (sym (read_is half w (take (length w - 1) w) (slice_index w (length w - 1)) long refl refl) ∙ e)

-- and a wire form is read
full_read : (hashes : List Hash) → IsInner hashes → full (concat hashes) ≡ Ok (inner hashes)
full_read hashes is =
    let size : length (concat hashes) ≡ 512 = omega (arith, length-concat hashes is.sizes, is.count) in
    let back : hashes_of 16 (concat hashes) ≡ hashes = ap (λ k. hashes_of k (concat hashes)) (sym is.count)
    ∙ hashes_of-concat hashes is.sizes in
    cond-false (not (length (concat hashes) == 512)) _ _ (ap not (eq-eqb (length (concat hashes)) 512 size))
    ∙ ap checked_inner back ∙ inner_is hashes is.some

compressed_read : (hashes : List Hash) (chunks : List Chunk) → IsInner hashes → AreChunksOf hashes chunks
    → compressed (flat_map chunk_bytes chunks) ≡ Ok (inner hashes)
compressed_read hashes chunks is are =
    let size : length (flat_map chunk_bytes chunks) ≡ length chunks * 33 + 0 = omega (arith, length-chunks chunks are.each) in
    let whole : (length (flat_map chunk_bytes chunks) % 33 == 0) ≡ true =
    eq-eqb (length (flat_map chunk_bytes chunks) % 33) 0 (ap (λ k. k % 33) size ∙ mod-mul-add (length chunks) 33 0 (omega arith))
    in
    let many : length (flat_map chunk_bytes chunks) / 33 ≡ length chunks = ap (λ k. k / 33) size
    ∙ div-mul-add (length chunks) 33 0 (omega arith) in
    let back : chunks_in (length (flat_map chunk_bytes chunks) / 33) (flat_map chunk_bytes chunks) ≡ chunks =
    ap (λ k. chunks_in k (flat_map chunk_bytes chunks)) many ∙ chunks_back chunks are.each
    in
    let clean : (chunk_cause [] chunks == 0) ≡ true =
    eq-eqb (chunk_cause [] chunks) 0 (no_chunk_cause chunks are.each are.positions_differ) in
    let same : map (hash_at chunks) branches ≡ hashes = sym (fill_by_all (hash_at chunks) hashes 16 zero_hash is.count are.same) in
    cond-false (not (length (flat_map chunk_bytes chunks) % 33 == 0)) _ _ (ap not whole)
    ∙ ap (λ cs. if not (chunk_cause [] cs == 0) then refusal (chunk_cause [] cs) else checked_inner (map (hash_at cs) branches)) back
    ∙ cond-false (not (chunk_cause [] chunks == 0)) _ _ (ap not clean)
    ∙ ap checked_inner same ∙ inner_is hashes is.some

pub wires_read : (half : Half) (n : Held) (w : Bytes) → Wire half n w → read_wire half w ≡ Ok n
wires_read half (leaf Set key bytes) w (is, form) =
    read_front half bytes w 0 form ∙ ap (λ k. checked_leaf Set k bytes) (sym is.1) ∙ leaf_is Set key bytes is.0.data_size is.0.key_nonzero
wires_read half (leaf State key bytes) w (is, form) =
    read_front half (bytes ++ key) w 1 form ∙ keyed_is State key bytes is.key_size is.data_size is.key_nonzero
wires_read half (leaf Tx key bytes) w (is, form) =
    read_front half (bytes ++ key) w 4 form ∙ keyed_is Tx key bytes is.key_size is.data_size is.key_nonzero
wires_read half (inner hashes) w (is, inl form) = read_front half (concat hashes) w 2 form ∙ full_read hashes is
wires_read half (inner hashes) w (is, inr (chunks, are, form)) =
    read_front half (flat_map chunk_bytes chunks) w 3 form ∙ compressed_read hashes chunks is are
wires_read half (header bytes) w never = absurd never

-- the laws
pub one_node : OneNode
one_node half a b w first second = let same : Ok a ≡ Ok b = sym (wires_read half a w first) ∙ wires_read half b w second in cc

pub read_by_wire : ReadByWire
read_by_wire half sized n w = (read_wires half sized n w, wires_read half n w)

written : (half : Half) (n : Held) → IsTrue (is_node n) → IsHeld half n → Wire half n (wire_of n)
written half (leaf Set key bytes) node is = (is, refl)
written half (leaf State key bytes) node is = (is, refl)
written half (leaf Tx key bytes) node is = (is, refl)
written half (inner hashes) node is = (is, by_count (nat_lt (count_by is_nonzero hashes) 12))
  where
    by_count : (t : Bool)
        → ((if t then flat_map chunk_bytes (chunks_of hashes) ++ 3 ∷ [] else concat hashes ++ 2 ∷ []) ≡ concat hashes ++ 2 ∷ [])
        ⊎ ((chunks : List Chunk) × AreChunksOf hashes chunks
        × ((if t then flat_map chunk_bytes (chunks_of hashes) ++ 3 ∷ [] else concat hashes ++ 2 ∷ [])
        ≡ flat_map chunk_bytes chunks ++ 3 ∷ []))
    by_count true = inr (chunks_of hashes, chunks_are hashes is, refl)
    by_count false = inl refl
written half (header bytes) node is = absurd (false≢true node)

pub written_is_read : WrittenIsRead
written_is_read half n node is = (written half n node is, wires_read half n (wire_of n) (written half n node is))

-- what decoding answers, as wire forms
pub decoded_form : (half : Half) → ((x : Bytes) → length (half x) ≡ 32) → (r : Result Node WireFault) (w : Bytes)
    → IfOk r (λ node. read_wire half w ≡ Ok (held node)) → IfOk r (λ node. Wire half (held node) w)
decoded_form half sized (Ok node) w read = read_wires half sized (held node) w read
decoded_form half sized (Err fault) w read = tt

not_read : (half : Half) (w : Bytes) (n : Held) (k : ℕ) → Wire half n w → read_wire half w ≡ Err k → ⊥
not_read half w n k is e = no_node k n (sym e ∙ wires_read half n w is)

is_memory : (half : Half) (w : Bytes) (n : Held) (fault : WireFault) → Wire half n w
    → (fault ≢ faults.Memory → read_wire half w ≡ Err (code fault)) → fault ≡ faults.Memory
is_memory half w n faults.Memory is cause = refl
is_memory half w n faults.Empty is cause = absurd (not_read half w n 1 is (cause (λ e. cc)))
is_memory half w n (faults.TypeByte b) is cause = absurd (not_read half w n 2 is (cause (λ e. cc)))
is_memory half w n (faults.FullLength m) is cause = absurd (not_read half w n 3 is (cause (λ e. cc)))
is_memory half w n (faults.ChunkLength m) is cause = absurd (not_read half w n 4 is (cause (λ e. cc)))
is_memory half w n (faults.Position p) is cause = absurd (not_read half w n 5 is (cause (λ e. cc)))
is_memory half w n (faults.Repeated p) is cause = absurd (not_read half w n 6 is (cause (λ e. cc)))
is_memory half w n (faults.ZeroChunk p) is cause = absurd (not_read half w n 7 is (cause (λ e. cc)))
is_memory half w n faults.EmptyInner is cause = absurd (not_read half w n 8 is (cause (λ e. cc)))
is_memory half w n (faults.LeafShort m) is cause = absurd (not_read half w n 9 is (cause (λ e. cc)))
is_memory half w n faults.ZeroKey is cause = absurd (not_read half w n 10 is (cause (λ e. cc)))
is_memory half w n (faults.TooLong m) is cause = absurd (not_read half w n 11 is (cause (λ e. cc)))

pub decoded_back : (half : Half) (r : Result Node WireFault) (w : Bytes) → IfOk r (λ node. read_wire half w ≡ Ok (held node))
    → IfErr r (λ fault. fault ≢ faults.Memory → read_wire half w ≡ Err (code fault)) → (n : Held) → Wire half n w
    → MatchResult r (λ node. held node ≡ n) (λ fault. fault ≡ faults.Memory)
decoded_back half (Ok node) w read cause n is = let same : Ok (held node) ≡ Ok n = sym read ∙ wires_read half n w is in cc
decoded_back half (Err fault) w read cause n is = is_memory half w n fault is cause
