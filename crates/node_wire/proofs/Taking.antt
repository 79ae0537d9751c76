-- Chunks as they are taken one by one into sixteen branches: the branches of the definition, or its first cause.
use Rattle.std.proofs.Common.{◌≡◌, ◌⊎◌, inl, inr, ◌<◌, ◌≤◌, ◌==◌, ◌||◌, not, ℕ, Bool, true, false}
use Rattle.std.proofs.Common.{if◌then◌else◌}
use Rattle.std.proofs.Common.{List, [], ◌∷◌, map, length, get_or, set, replicate, nat_lt, Some, Result, Ok, Err}
use Rattle.std.proofs.Common.{refl, sym, ap, ◌∙◌, arith, length-set}
use Rattle.std.specs.Option.{option_map_or}
use Rattle.std.specs.List.{find, list_any}
use Rattle.std.proofs.lemmas.Bool.{cases_lt, cond-false, cond-true, eqb-true, eqb-false, ltb-true}
use Rattle.std.proofs.lemmas.List.{get_or_past, get_or-replicate, get_or-set_other, get_or-set_same, length-replicate}
use Rattle.std.proofs.lemmas.List.FromFn.{fill_by_all}
use Rattle.ledger_spec.specs.Bytes.{Hash, branches, is_zero, is_nonzero, zero_hash}
use Rattle.ledger_spec.specs.Wire.{Chunk, chunk_cause, hash_at}
use Rattle.node_wire.specs.Chunks.{slot_cause}
use Rattle.node_wire.specs.Faults.{refused_position}

-- the branches when all chunks are taken, or why one is refused, and its position
abbrev pub outcome : List Hash → List Chunk → Result (List Hash) (ℕ × ℕ)
outcome slots [] = Ok slots
outcome slots (c ∷ rest) =
    if slot_cause slots c == 0 then outcome (set slots c.position c.hash) rest else Err (slot_cause slots c, c.position)

abbrev slot : List Hash → ℕ → Hash
slot slots b = get_or slots b zero_hash

-- a branch is taken where an earlier chunk is at its position
record AreTaken (before : List ℕ) (slots : List Hash) : Type 0 where
  size : length slots ≡ 16
  taken : (p : ℕ) → p < 16 → list_any (λ q. q == p) before ≡ is_nonzero (slot slots p)
  empty : (p : ℕ) → p < 16 → is_nonzero (slot slots p) ≡ false → slot slots p ≡ zero_hash

-- a branch that is taken stays, and each other is that of the chunks
abbrev merged : List Hash → List Chunk → ℕ → Hash
merged slots chunks b = if is_nonzero (slot slots b) then slot slots b else hash_at chunks b

abbrev pub pair : ℕ → ℕ → ℕ × ℕ
pair n p = (n, p)

-- branches, or a cause and a position
abbrev pub chosen : Bool → List Hash → ℕ → ℕ → Result (List Hash) (ℕ × ℕ)
chosen t hashes n p = if t then Ok hashes else Err (n, p)

-- what is said of chunks by their definition
abbrev by_cause : List ℕ → List Chunk → List Hash → Result (List Hash) (ℕ × ℕ)
by_cause before chunks hashes = chosen (chunk_cause before chunks == 0) hashes (chunk_cause before chunks) (refused_position before chunks)

map_same : (f g : ℕ → Hash) (l : List ℕ) → ((b : ℕ) → f b ≡ g b) → map f l ≡ map g l
map_same f g [] same = refl
map_same f g (b ∷ l) same = ap (λ h. h ∷ map f l) (same b) ∙ ap (λ t. g b ∷ t) (map_same f g l same)

-- one chunk more
module _ (before : List ℕ) (slots : List Hash) (c : Chunk) (rest : List Chunk) (is : AreTaken before slots) (low : c.position < 16)
    (fresh : is_nonzero (slot slots c.position) ≡ false) (some : is_zero c.hash ≡ false) where
  abbrev now : List Hash
  now = set slots c.position c.hash

  here : slot now c.position ≡ c.hash
  here = get_or-set_same slots c.position c.hash zero_hash (omega (arith, is.size))

  away : (b : ℕ) → (c.position ≡ b → ⊥) → slot now b ≡ slot slots b
  away b other = get_or-set_other slots c.position b c.hash zero_hash (λ e. other (sym e))

  more_taken : AreTaken (c.position ∷ before) now
  more_taken = record {
    size = length-set slots c.position c.hash ∙ is.size;
    taken = λ p lt. by_place p lt (c.position == p) refl;
    empty = λ p lt none. by_empty p lt (c.position == p) refl none;
  }
    where
      by_place : (p : ℕ) → p < 16 → (t : Bool) → (c.position == p) ≡ t
          → ((c.position == p) || list_any (λ q. q == p) before) ≡ is_nonzero (slot now p)
      by_place p lt true e =
          let same : c.position ≡ p = eqb-true c.position p e in
          ap (λ b. b || list_any (λ q. q == p) before) e
          ∙ sym (ap (λ q. is_nonzero (slot now q)) (sym same) ∙ ap is_nonzero here ∙ ap not some)
      by_place p lt false e =
          ap (λ b. b || list_any (λ q. q == p) before) e ∙ is.taken p lt ∙ ap is_nonzero (sym (away p (eqb-false c.position p e)))

      by_empty : (p : ℕ) → p < 16 → (t : Bool) → (c.position == p) ≡ t → is_nonzero (slot now p) ≡ false → slot now p ≡ zero_hash
      by_empty p lt true e none =
          let same : c.position ≡ p = eqb-true c.position p e in
          let full : is_nonzero (slot now p) ≡ true = ap (λ q. is_nonzero (slot now q)) (sym same) ∙ ap is_nonzero here ∙ ap not some in
          let clash : false ≡ true = sym none ∙ full in
          cc
      by_empty p lt false e none =
          let same : slot now p ≡ slot slots p = away p (eqb-false c.position p e) in
          same ∙ is.empty p lt (ap is_nonzero (sym same) ∙ none)

  same_merged : (b : ℕ) → merged now rest b ≡ merged slots (c ∷ rest) b
  same_merged b = by_place (c.position == b) refl
    where
      by_place : (t : Bool) → (c.position == b) ≡ t → merged now rest b ≡ merged slots (c ∷ rest) b
      by_place true e =
          let same : c.position ≡ b = eqb-true c.position b e in
          let at : slot now b ≡ c.hash = ap (slot now) (sym same) ∙ here in
          let old : is_nonzero (slot slots b) ≡ false = ap (λ q. is_nonzero (slot slots q)) (sym same) ∙ fresh in
          ap (λ h. if is_nonzero h then h else hash_at rest b) at ∙ cond-true (is_nonzero c.hash) c.hash (hash_at rest b) (ap not some)
          ∙ sym (cond-false (is_nonzero (slot slots b)) (slot slots b) (hash_at (c ∷ rest) b) old
          ∙ ap (λ o. option_map_or (λ d. d.hash) o zero_hash) (cond-true (c.position == b) (Some c) (find (λ d. d.position == b) rest) e))
      by_place false e =
          let at : slot now b ≡ slot slots b = away b (eqb-false c.position b e) in
          let found : hash_at (c ∷ rest) b ≡ hash_at rest b =
          ap (λ o. option_map_or (λ d. d.hash) o zero_hash) (cond-false (c.position == b) (Some c) (find (λ d. d.position == b) rest) e)
          in
          ap (λ h. if is_nonzero h then h else hash_at rest b) at
          ∙ ap (λ h. if is_nonzero (slot slots b) then slot slots b else h) (sym found)

-- taking chunks one by one is what the definition says of them
outcome_is : (before : List ℕ) (slots : List Hash) (chunks : List Chunk) → AreTaken before slots
    → outcome slots chunks ≡ by_cause before chunks (map (merged slots chunks) branches)
outcome_is before slots [] is =
    ap Ok (fill_by_all (merged slots []) slots 16 zero_hash is.size (λ k lt. own k lt (is_nonzero (slot slots k)) refl))
  where
    own : (k : ℕ) → k < 16 → (t : Bool) → is_nonzero (slot slots k) ≡ t → slot slots k ≡ merged slots [] k
    own k lt true e = sym (cond-true (is_nonzero (slot slots k)) (slot slots k) zero_hash e)
    own k lt false e = is.empty k lt e ∙ sym (cond-false (is_nonzero (slot slots k)) (slot slots k) zero_hash e)
outcome_is before slots (c ∷ rest) is =
    by_tests (nat_lt c.position 16) refl (is_nonzero (slot slots c.position)) refl (is_zero c.hash) refl
    (λ more. outcome_is (c.position ∷ before) (set slots c.position c.hash) rest more)
  where
    by_tests : (a : Bool) → nat_lt c.position 16 ≡ a → (b : Bool) → is_nonzero (slot slots c.position) ≡ b → (z : Bool) → is_zero c.hash ≡ z
        → (AreTaken (c.position ∷ before) (set slots c.position c.hash)
        → outcome (set slots c.position c.hash) rest
        ≡ by_cause (c.position ∷ before) rest (map (merged (set slots c.position c.hash) rest) branches))
        → outcome slots (c ∷ rest) ≡ by_cause before (c ∷ rest) (map (merged slots (c ∷ rest)) branches)
    by_tests false low b full z none later = rw low refl
    by_tests true low true full z none later =
        let seen : list_any (λ q. q == c.position) before ≡ true = is.taken c.position (ltb-true c.position 16 low) ∙ full in
        rw (low, full, seen) refl
    by_tests true low false full true none later =
        let seen : list_any (λ q. q == c.position) before ≡ false = is.taken c.position (ltb-true c.position 16 low) ∙ full in
        rw (low, full, seen, none) refl
    by_tests true low false full false none later =
        let below : c.position < 16 = ltb-true c.position 16 low in
        let seen : list_any (λ q. q == c.position) before ≡ false = is.taken c.position below ∙ full in
        let all : map (merged (set slots c.position c.hash) rest) branches ≡ map (merged slots (c ∷ rest)) branches =
        map_same _ _ branches (same_merged before slots c rest is below full none)
        in
        rw (low, full, seen, none)
        (later (more_taken before slots c rest is below full none) ∙ ap (by_cause (c.position ∷ before) rest) all)

-- at the start no branch is taken
abbrev pub no_slots : List Hash
no_slots = replicate 16 zero_hash

none_taken : AreTaken [] no_slots
none_taken = record {
  size = length-replicate 16 zero_hash;
  taken = λ p lt. sym (ap is_nonzero (get_or-replicate 16 p zero_hash zero_hash lt));
  empty = λ p lt none. get_or-replicate 16 p zero_hash zero_hash lt;
}

first_merged : (chunks : List Chunk) (b : ℕ) → merged no_slots chunks b ≡ hash_at chunks b
first_merged chunks b = by_place (slot no_slots b) (zero_slot b)
  where
    by_bound : (b : ℕ) → (b < 16) ⊎ (16 ≤ b) → slot no_slots b ≡ zero_hash
    by_bound b (inl lt) = get_or-replicate 16 b zero_hash zero_hash lt
    by_bound b (inr le) = get_or_past no_slots b zero_hash (omega (arith, length-replicate 16 zero_hash, le))

    zero_slot : (b : ℕ) → slot no_slots b ≡ zero_hash
    zero_slot b = by_bound b (cases_lt b 16)

    by_place : (h : Hash) → h ≡ zero_hash → (if is_nonzero h then h else hash_at chunks b) ≡ hash_at chunks b
    by_place h e = ap (λ x. if is_nonzero x then x else hash_at chunks b) e

pub all_taken : (chunks : List Chunk) → outcome no_slots chunks ≡ by_cause [] chunks (map (hash_at chunks) branches)
all_taken chunks = outcome_is [] no_slots chunks none_taken ∙ ap (by_cause [] chunks) (map_same _ _ branches (first_merged chunks))
