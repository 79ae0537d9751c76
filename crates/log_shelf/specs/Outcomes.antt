-- A write that was done is among what one that is cut short may leave: so what reads of a disk in memory give is among what a
-- stop may leave of it.
use Rattle.std.proofs.Common.{◌≡◌, ◌⊎◌, inl, inr, ◌∙◌, sym, ap, refl, subst, ℕ, ◌+◌, ◌-◌, ◌<◌, ◌≤◌, List, [], ◌∷◌, ◌++◌, length, take}
use Rattle.std.proofs.Common.{drop, get_or, arith, length-append, length-drop}
use Rattle.std.specs.Prelude.{replicate}
use Rattle.std.proofs.lemmas.List.{take-append-le, length-take-le, length-replicate, get_or-take, get_or-drop, get_or_append_left}
use Rattle.std.proofs.lemmas.List.{get_or-append_right}
use Rattle.std.proofs.lemmas.Bool.{cases_lt}
use Rattle.log_shelf.specs.Disks.{Torn, padded, overwritten}
use Rattle.log_shelf.specs.declared.span.Span.{Span}
use Rattle.log_shelf.specs.MemDisks.{applied, IsOutcome}

-- a write at a place within the file
pub overwritten-within : (file : List ℕ) (at : ℕ) (bytes : List ℕ) → at ≤ length file
    → overwritten file at bytes ≡ take at file ++ (bytes ++ drop (at + length bytes) file)
overwritten-within file at bytes h = ap (λ (x : List ℕ). x ++ (bytes ++ drop (at + length bytes) file)) (take-append-le at file
    (replicate (at - length file) 0) h)

-- the part above the range, as it was
above_mid : (file : List ℕ) (at i : ℕ) (bytes : List ℕ) → at ≤ length file → at + length bytes ≤ i
    → get_or (take at file ++ (bytes ++ drop (at + length bytes) file)) i 0 ≡ get_or file i 0
above_mid file at i bytes h j =
    get_or-append_right (take at file) (bytes ++ drop (at + length bytes) file) at i 0 (length-take-le at file h) (omega arith)
    ∙ (get_or-append_right bytes (drop (at + length bytes) file) (length bytes) (i - at) 0 refl (omega arith)
    ∙ (get_or-drop (at + length bytes) file (i - at - length bytes) 0
    ∙ ap (λ (n : ℕ). get_or file n 0) (omega arith)))

below_mid : (file : List ℕ) (at i : ℕ) (bytes : List ℕ) → at ≤ length file → i < at
    → get_or (take at file ++ (bytes ++ drop (at + length bytes) file)) i 0 ≡ get_or file i 0
below_mid file at i bytes h j =
    get_or_append_left (take at file) (bytes ++ drop (at + length bytes) file) 0 i (omega (arith, length-take-le at file h))
    ∙ get_or-take at file i 0 j

torn_mid : (file : List ℕ) (at : ℕ) (bytes : List ℕ) → at ≤ length file
    → Torn at (length bytes) file (take at file ++ (bytes ++ drop (at + length bytes) file))
torn_mid file at bytes h = record {
  no_shorter = omega (
    arith,
    length-append (take at file) (bytes ++ drop (at + length bytes) file),
    length-append bytes (drop (at + length bytes) file),
    length-drop (at + length bytes) file,
    length-take-le at file h,
  );
  below = λ i l m. below_mid file at i bytes h m;
  above = λ i l m. above_mid file at i bytes h m;
}

-- what was written changes no more than a write that is cut short
pub overwritten-torn : (file : List ℕ) (at : ℕ) (bytes : List ℕ) → at ≤ length file
    → Torn at (length bytes) file (overwritten file at bytes)
overwritten-torn file at bytes h = subst (λ (x : List ℕ). Torn at (length bytes) file x) (sym (overwritten-within file at bytes h))
    (torn_mid file at bytes h)

-- how long a file is after a write
pub length-overwritten : (file : List ℕ) (at : ℕ) (bytes : List ℕ)
    → length (overwritten file at bytes) ≡ at + length bytes + (length file - (at + length bytes))
length-overwritten file at bytes =
    let pad = length-append file (replicate (at - length file) 0) in
    let zeros = length-replicate {A = ℕ} (at - length file) 0 in
    omega (
      arith,
      pad,
      zeros,
      length-take-le at (padded file at) (omega (arith, pad, zeros)),
      length-append (take at (padded file at)) (bytes ++ drop (at + length bytes) file),
      length-append bytes (drop (at + length bytes) file),
      length-drop (at + length bytes) file,
    )

-- what lies below a gap stays
below_gap : (file : List ℕ) (at i : ℕ) (bytes : List ℕ) → i < length file → length file < at
    → get_or (overwritten file at bytes) i 0 ≡ get_or file i 0
below_gap file at i bytes h j =
    let pad = length-append file (replicate (at - length file) 0) in
    let zeros = length-replicate {A = ℕ} (at - length file) 0 in
    get_or_append_left (take at (padded file at)) (bytes ++ drop (at + length bytes) file) 0 i (omega (
      arith,
      pad,
      zeros,
      length-take-le
          at (padded file at) (omega (arith, pad, zeros)),
    ))
    ∙ (get_or-take at (padded file at) i 0 (omega arith) ∙ get_or_append_left file (replicate (at - length file) 0) 0 i h)

gap_torn : (file : List ℕ) (at : ℕ) (bytes : List ℕ) → (at ≤ length file) ⊎ (length file < at)
    → Torn at (length bytes) file (overwritten file at bytes)
gap_torn file at bytes (inl within) = overwritten-torn file at bytes within
gap_torn file at bytes (inr past) = record {
  no_shorter = omega (arith, length-overwritten file at bytes);
  below = λ i l m. below_gap file at i bytes l past;
  above = λ i l m. absurd (omega arith);
}

order : (m n : ℕ) → (m < n) ⊎ (n ≤ m) → (n ≤ m) ⊎ (m < n)
order m n (inl h) = inr h
order m n (inr h) = inl h

-- a write anywhere changes no more than one that is cut short
pub torn-overwritten : (file : List ℕ) (at : ℕ) (bytes : List ℕ) → Torn at (length bytes) file (overwritten file at bytes)
torn-overwritten file at bytes = gap_torn file at bytes (order (length file) at (cases_lt (length file) at))

-- writes that were all done are among those that may have been cut short
pub outcome-applied : (spans : List Span) (file : List ℕ) → IsOutcome spans file (applied spans file)
outcome-applied [] file = refl
outcome-applied (s ∷ spans) file = (
  overwritten file s.at s.bytes.items,
  torn-overwritten file s.at s.bytes.items,
  outcome-applied spans
      (overwritten file s.at s.bytes.items),
)

pub seen_may_stay : (spans : List Span) (file now : List ℕ) → now ≡ applied spans file → IsOutcome spans file now
seen_may_stay spans file now same = subst (λ (x : List ℕ). IsOutcome spans file x) (sym same) (outcome-applied spans file)
