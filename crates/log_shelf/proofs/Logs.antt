-- What a log's bytes read as, whatever a stop made of them.
use Rattle.std.proofs.Common.{◌≡◌, ◌≢◌, ◌⊎◌, inl, inr, ◌∙◌, sym, ap, refl, subst, ℕ, ◌+◌, ◌<◌, ◌^◌, List, [], ◌∷◌, ◌++◌, length, take}
use Rattle.std.proofs.Common.{drop, arith, append_assoc, length-take}
use Rattle.std.specs.Prelude.{slice_index, Bool, true, false, Some}
use Rattle.std.proofs.lemmas.List.{take_at, drop_at, take-append-drop, drop_more, append-nil}
use Rattle.std.proofs.lemmas.Bool.{cases_eq}
use Rattle.log_shelf.specs.Disks.{Holds, Torn}
use Rattle.log_shelf.specs.Entries.{number_bytes, text_of, texts_of, entries_of}
use Rattle.log_shelf.specs.Logs.{body_of, behind, IsImage, IsLog, told_entries, doubted, ReadsAs}
use Rattle.log_shelf.proofs.Entries.{length-number_bytes, number_in-text, front_of-closed, entries_of-none, entries_of-text}
use Rattle.log_shelf.proofs.Entries.{entries_of-texts}
use Rattle.log_shelf.proofs.Ranges.{torn-front, torn-holds, holds-drop}

-- what is read is what was told, and then what stands at the gate
read_front : (tail : ℕ) (seen file : List ℕ) → tail < 2 ^ 63 → texts_of (entries_of (take tail seen)) ≡ take tail seen
    → take tail file ≡ take tail seen
    → entries_of file ≡ told_entries tail seen ++ entries_of (drop tail file)
read_front tail seen file low whole front =
    ap entries_of (sym (take-append-drop tail file) ∙ ap (λ (x : List ℕ). x ++ drop tail file) (front ∙ sym whole))
    ∙ entries_of-texts (told_entries tail seen) (drop tail file) (omega (arith, ap length whole, length-take tail seen))

-- at a closed gate nothing is read
read_closed : (tail : ℕ) (file : List ℕ) → tail < length file → slice_index file tail ≢ 1 → entries_of (drop tail file) ≡ []
read_closed tail file within closed =
    ap entries_of (drop_more file tail 0 within) ∙ entries_of-none (slice_index file tail ∷ drop (tail + 1) file) (front_of-closed
    (slice_index file tail) (drop (tail + 1) file) closed)

-- at an open gate the entry behind it is, and no other one
pub parts : (e rest : List ℕ) → 1 ∷ (body_of e ++ rest) ≡ text_of e ++ (0 ∷ rest)
parts e rest = ap (λ (x : List ℕ). 1 ∷ x)
    (append_assoc (number_bytes (length e)) (e ++ 0 ∷ []) rest
    ∙ (ap (λ (x : List ℕ). number_bytes (length e) ++ x) (append_assoc e (0 ∷ []) rest)
    ∙ sym (append_assoc (number_bytes (length e)) e (0 ∷ rest))))

read_open : (tail : ℕ) (file e : List ℕ) → tail < length file → slice_index file tail ≡ 1 → length e < 2 ^ 64
    → Holds file (tail + 1) (body_of e)
    → entries_of (drop tail file) ≡ e ∷ []
read_open tail file e within is_open short held =
    let rest = drop (tail + 1 + length (body_of e)) file in
    ap entries_of (drop_more file tail 0 within
    ∙ (ap (λ (g : ℕ). g ∷ drop (tail + 1) file) is_open
    ∙ (ap (λ (x : List ℕ). 1 ∷ x) (holds-drop file (tail + 1) (body_of e) held)
    ∙ parts e rest)))
    ∙ (entries_of-text e (0 ∷ rest) short
    ∙ ap (λ (x : List (List ℕ)). e ∷ x) (entries_of-none (0 ∷ rest) (front_of-closed 0 rest (λ (p : 0 ≡ 1). absurd (cc)))))

read_doubt : (tail : ℕ) (file e : List ℕ) → tail < length file → length e < 2 ^ 64 → Holds file (tail + 1) (body_of e)
    → (slice_index file tail ≡ 1) ⊎ (slice_index file tail ≡ 1 → ⊥)
    → (entries_of (drop tail file) ≡ []) ⊎ (entries_of (drop tail file) ≡ e ∷ [])
read_doubt tail file e within short held (inl is_open) = inr (read_open tail file e within is_open short held)
read_doubt tail file e within short held (inr closed) = inl (read_closed tail file within closed)

join : (told read : List (List ℕ)) (file e : List ℕ) → entries_of file ≡ told ++ read → (read ≡ []) ⊎ (read ≡ e ∷ [])
    → ReadsAs file told (Some e)
join told read file e h (inl none) = inl (h ∙ (ap (λ (x : List (List ℕ)). told ++ x) none ∙ append-nil told))
join told read file e h (inr one) = inr (h ∙ ap (λ (x : List (List ℕ)). told ++ x) one)

-- each outcome of a stop reads as what was told, or has the entry in doubt besides
pub log-reads : (tail : ℕ) (doubt : Bool) (seen : List ℕ) (may_leave : List ℕ → Type 0) (file : List ℕ)
    → IsLog tail doubt seen may_leave → may_leave file → ReadsAs file (told_entries tail seen) (doubted tail doubt seen)
log-reads tail false seen may_leave file log left =
    let image = log.images file left in
    inl (read_front tail seen file log.low log.whole image.front
    ∙ (ap (λ (x : List (List ℕ)). told_entries tail seen ++ x) (read_closed tail file image.within (image.closed refl))
    ∙ append-nil (told_entries tail seen)))
log-reads tail true seen may_leave file log left =
    let image = log.images file left in
    join (told_entries tail seen) (entries_of (drop tail file)) file (behind tail seen)
    (read_front tail seen file log.low log.whole image.front)
    (read_doubt tail file (behind tail seen) image.within (omega (arith, log.small refl)) (image.in_doubt refl) (cases_eq (slice_index
    file tail) 1))

-- the entry that a body holds stands behind the gate
pub behind-holds : (tail : ℕ) (file e : List ℕ) → length e < 2 ^ 64 → Holds file (tail + 1) (body_of e) → behind tail file ≡ e
unfolding behind
behind-holds tail file e short held =
    let rest = drop (tail + 1 + length (body_of e)) file in
    let d : drop (tail + 1) file ≡ number_bytes (length e) ++ ((e ++ 0 ∷ []) ++ rest) =
    holds-drop file (tail + 1) (body_of e) held ∙ append_assoc (number_bytes (length e)) (e ++ 0 ∷ []) rest in
    rw (
      d,
      number_in-text (length e) ((e ++ 0 ∷ []) ++ rest) short,
      drop_at (number_bytes (length e)) ((e ++ 0 ∷ []) ++ rest) 8 (length-number_bytes (length e)),
      append_assoc e (0 ∷ []) rest,
      take_at e (0 ∷ rest) (length e) refl,
    ) refl

-- a write of the gate, which may be cut short, leaves a log whose gate is in doubt
pub gate_image : (tail : ℕ) (seen now d c : List ℕ) → IsImage tail true seen d → tail < length seen → take tail now ≡ take tail seen
    → behind tail now ≡ behind tail seen
    → Torn tail 1 d c → IsImage tail true now c
gate_image tail seen now d c image within front same torn = record {
  within = omega (arith, torn.no_shorter, image.within);
  front = torn-front tail tail 1 d c torn (omega arith) (omega (arith, image.within)) ∙ (image.front ∙ sym front);
  closed = λ h. absurd (cc);
  in_doubt = λ h. subst (λ (e : List ℕ). Holds c (tail + 1) (body_of e)) (sym same) (torn-holds tail 1 (tail + 1) d c (body_of (behind
      tail seen)) torn (omega arith) (image.in_doubt refl));
}
