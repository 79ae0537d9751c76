-- The bytes of chunks, taken 33 at a time: what is read of them, or the first cause.
use Rattle.std.proofs.Common.{◌≡◌, ◌+◌, ◌-◌, ◌*◌, ◌/◌, ◌%◌, ◌==◌, ℕ, suc, Bool, true, false}
use Rattle.std.proofs.Common.{List, [], ◌∷◌, map, length, take, drop, set, Ok, Err}
use Rattle.std.proofs.Common.{refl, sym, ap, ◌∙◌, arith, length-drop}
use Rattle.std.specs.Prelude.{slice_index}
use Rattle.std.proofs.lemmas.Bool.{cond-false, cond-true, eq-eqb, eqb-true, eqb-false, ne_eqb}
use Rattle.std.proofs.lemmas.List.{get_or-take}
use Rattle.std.proofs.lemmas.List.{take-take}
use Rattle.std.proofs.lemmas.Nat.{div-add-mod', div-mul-add, mod-mul-add}
use Rattle.ledger_spec.specs.Bytes.{Bytes, Hash, branches}
use Rattle.ledger_spec.specs.Wire.{Chunk, chunks_in, chunk_cause, checked_inner, compressed, hash_at}
use Rattle.node_wire.specs.Chunks.{chunk_in, slot_cause}
use Rattle.node_wire.specs.Faults.{TellsChunk, TellsFront, all_chunks, code, refused_position}
use Rattle.node_wire.specs.declared.fault.WireFault.{WireFault}
use Rattle.node_wire.specs.declared.fault.WireFault.TheVariants as faults
use Rattle.node_wire.proofs.Taking.{outcome, pair, chosen, no_slots, all_taken}

-- so the inner node of chunks is checked by the branches, or refused for its first fault
ok_parts : (t : Bool) (n p : ℕ) (hashes hs : List Hash) → chosen t hashes n p ≡ Ok hs → (t ≡ true) × (hashes ≡ hs)
ok_parts true n p hashes hs e = (refl, cc)
ok_parts false n p hashes hs e = cc

err_parts : (t : Bool) (n p m q : ℕ) (hashes : List Hash) → chosen t hashes n p ≡ Err (m, q) → (t ≡ false) × (n ≡ m)
    × (p ≡ q)
err_parts true n p m q hashes e = cc
err_parts false n p m q hashes e = let same : pair n p ≡ pair m q = cc in (refl, ap (λ x. x.0) same, ap (λ x. x.1) same)

pub read_ok : (front : Bytes) (hs : List Hash) → length front % 33 ≡ 0 → outcome no_slots (all_chunks front) ≡ Ok hs
    → compressed front ≡ checked_inner hs
read_ok front hs whole taken =
    let parts = ok_parts (chunk_cause [] (all_chunks front) == 0) (chunk_cause [] (all_chunks front))
    (refused_position [] (all_chunks front))
    (map (hash_at (all_chunks front)) branches) hs (sym (all_taken (all_chunks front)) ∙ taken)
    in
    let size : (length front % 33 == 0) ≡ true = eq-eqb (length front % 33) 0 whole in
    rw (size, parts.0) (ap checked_inner parts.1)

pub read_err : (front : Bytes) (n p : ℕ) → length front % 33 ≡ 0 → outcome no_slots (all_chunks front) ≡ Err (n, p)
    → (compressed front ≡ Err n) × (p ≡ refused_position [] (all_chunks front))
read_err front n p whole taken =
    let parts = err_parts (chunk_cause [] (all_chunks front) == 0) (chunk_cause [] (all_chunks front))
    (refused_position [] (all_chunks front)) n p
    (map (hash_at (all_chunks front)) branches) (sym (all_taken (all_chunks front)) ∙ taken)
    in
    let size : (length front % 33 == 0) ≡ true = eq-eqb (length front % 33) 0 whole in
    (rw (size, parts.0) (ap Err parts.1), sym parts.2)

pub read_length : (front : Bytes) → (length front % 33 ≡ 0 → ⊥) → compressed front ≡ Err 4
read_length front other = let size : (length front % 33 == 0) ≡ false = ne_eqb (length front % 33) 0 other in rw size refl

-- what is left after a chunk
pub after_one : (slots : List Hash) (rest chunk after : Bytes) → length rest % 33 ≡ 0 → (length rest == 0) ≡ false → chunk ≡ take 33 rest
    → after ≡ drop 33 rest
    → (length after % 33 ≡ 0)
    × (outcome slots (chunks_in (length rest / 33) rest) ≡ outcome slots (chunk_in chunk ∷ chunks_in (length after / 33) after))
after_one slots rest chunk after whole some front back =
    let empty : (length rest ≡ 0) → ⊥ = eqb-false (length rest) 0 some in
    let many : length rest ≡ 33 * (length rest / 33) = omega (arith, div-add-mod' (length rest) 33, whole) in
    let size : length after ≡ length rest - 33 = ap length back ∙ length-drop 33 rest in
    let fewer : length after ≡ (length rest / 33 - 1) * 33 + 0 = omega (arith, many, empty) in
    let left : length after / 33 ≡ length rest / 33 - 1 = ap (λ k. k / 33) fewer ∙ div-mul-add (length rest / 33 - 1) 33 0 (omega arith) in
    let step : length rest / 33 ≡ suc (length after / 33) = omega (arith, left, many, empty) in
    let same : chunk_in rest ≡ chunk_in chunk =
    sym (ap chunk_in front ∙ chunk_front rest)
    in (
      ap (λ k. k % 33) fewer ∙ mod-mul-add (length rest / 33 - 1) 33 0 (omega arith),
      ap (λ k. outcome slots (chunks_in k rest)) step
          ∙ ap (λ c. outcome slots (c ∷ chunks_in (length after / 33) (drop 33 rest))) same
          ∙ ap (λ b. outcome slots (chunk_in chunk ∷ chunks_in (length after / 33) b)) (sym back),
    )
  where
    made : Hash → ℕ → Chunk
    made h p = record { hash = h; position = p }

    chunk_front : (b : Bytes) → chunk_in (take 33 b) ≡ chunk_in b
    chunk_front b =
        ap (λ h. made h (slice_index (take 33 b) 32)) (take-take 32 33 b (omega arith))
        ∙ ap (made (take 32 b)) (get_or-take 33 b 32 0 (omega arith))

pub one_taken : (slots : List Hash) (c : Chunk) (rest : List Chunk) → slot_cause slots c ≡ 0
    → outcome slots (c ∷ rest) ≡ outcome (set slots c.position c.hash) rest
one_taken slots c rest fits = cond-true (slot_cause slots c == 0) _ _ (eq-eqb (slot_cause slots c) 0 fits)

pub one_refused : (slots : List Hash) (c : Chunk) (rest : List Chunk) (n : ℕ) → slot_cause slots c ≡ n → (n ≡ 0 → ⊥)
    → outcome slots (c ∷ rest) ≡ Err (n, c.position)
one_refused slots c rest n is some =
    cond-false (slot_cause slots c == 0) _ _ (ne_eqb (slot_cause slots c) 0 (λ e. some (sym is ∙ e))) ∙ ap (λ k. Err (k, c.position)) is

-- a chunk that is refused is the first cause of all
code_some : (fault : WireFault) (p : ℕ) → TellsChunk p fault → code fault ≡ 0 → ⊥
code_some (faults.Position q) p tells e = let no : 5 ≡ 0 = e in absurd (omega (arith, no))
code_some (faults.Repeated q) p tells e = let no : 6 ≡ 0 = e in absurd (omega (arith, no))
code_some (faults.ZeroChunk q) p tells e = let no : 7 ≡ 0 = e in absurd (omega (arith, no))
code_some faults.Empty p tells e = absurd tells
code_some (faults.TypeByte b) p tells e = absurd tells
code_some (faults.FullLength n) p tells e = absurd tells
code_some (faults.ChunkLength n) p tells e = absurd tells
code_some faults.EmptyInner p tells e = absurd tells
code_some (faults.LeafShort n) p tells e = absurd tells
code_some faults.ZeroKey p tells e = absurd tells
code_some (faults.TooLong n) p tells e = absurd tells
code_some faults.Memory p tells e = absurd tells

tells_front : (fault : WireFault) (p : ℕ) (front : Bytes) → TellsChunk p fault → p ≡ refused_position [] (all_chunks front)
    → TellsFront 3 front fault
tells_front (faults.Position q) p front tells is = tells ∙ is
tells_front (faults.Repeated q) p front tells is = tells ∙ is
tells_front (faults.ZeroChunk q) p front tells is = tells ∙ is
tells_front faults.Empty p front tells is = absurd tells
tells_front (faults.TypeByte b) p front tells is = absurd tells
tells_front (faults.FullLength n) p front tells is = absurd tells
tells_front (faults.ChunkLength n) p front tells is = absurd tells
tells_front faults.EmptyInner p front tells is = absurd tells
tells_front (faults.LeafShort n) p front tells is = absurd tells
tells_front faults.ZeroKey p front tells is = absurd tells
tells_front (faults.TooLong n) p front tells is = absurd tells
tells_front faults.Memory p front tells is = absurd tells

module _ (front : Bytes) (slots : List Hash) (rest : Bytes) (all : length front % 33 ≡ 0) (whole : length rest % 33 ≡ 0)
    (same : outcome slots (chunks_in (length rest / 33) rest) ≡ outcome no_slots (all_chunks front)) where
  pub chunk_refused : (chunk : Bytes) (fault : WireFault) → (length rest == 0) ≡ false → chunk ≡ take 33 rest
      → slot_cause slots (chunk_in chunk) ≡ code fault → TellsChunk (chunk_in chunk).position fault
      → (compressed front ≡ Err (code fault)) × TellsFront 3 front fault
  chunk_refused chunk fault some is cause tells =
      let next = after_one slots rest chunk (drop 33 rest) whole some is refl in
      let refused = one_refused slots (chunk_in chunk) (chunks_in (length (drop 33 rest) / 33) (drop 33 rest)) (code fault) cause
      (code_some fault (chunk_in chunk).position tells)
      in
      let read = read_err front (code fault) (chunk_in chunk).position all (sym same ∙ next.1 ∙ refused) in
      (read.0, tells_front fault (chunk_in chunk).position front tells read.1)

  pub chunk_taken : (more : List Hash) (chunk after : Bytes) → (length rest == 0) ≡ false → chunk ≡ take 33 rest → after ≡ drop 33 rest
      → more ≡ set slots (chunk_in chunk).position (chunk_in chunk).hash → slot_cause slots (chunk_in chunk) ≡ 0
      → (length after % 33 ≡ 0) × (outcome more (chunks_in (length after / 33) after) ≡ outcome no_slots (all_chunks front))
  chunk_taken more chunk after some is left taken fits =
      let next = after_one slots rest chunk after whole some is left in (
        next.0,
        ap (λ hs. outcome hs (chunks_in (length after / 33) after)) taken
            ∙ sym (next.1 ∙ one_taken slots (chunk_in chunk) (chunks_in (length after / 33) after) fits) ∙ same,
      )

  pub all_read : (length rest == 0) ≡ true → compressed front ≡ checked_inner slots
  all_read none = read_ok front slots all (sym same ∙ ap (λ k. outcome slots (chunks_in (k / 33) rest)) (eqb-true (length rest) 0 none))
