-- What each write to a log leaves, cut short or not.
use Rattle.std.proofs.Common.{◌≡◌, ◌≢◌, ◌∙◌, sym, ap, refl, subst, ℕ, ◌+◌, ◌<◌, ◌≤◌, ◌^◌, List, [], ◌∷◌, ◌++◌, length, take, drop}
use Rattle.std.proofs.Common.{get_or, arith, append_assoc, length-append, length-take}
use Rattle.std.specs.Prelude.{slice_index, Bool, true, false, Some}
use Rattle.std.proofs.lemmas.List.{take_at, take-append-drop, drop_more, append-nil, length-take-le, get_or_at}
use Rattle.log_shelf.specs.Disks.{Holds, Torn, Follows, NoMore, Only, overwritten}
use Rattle.log_shelf.specs.Entries.{number_bytes, text_of, texts_of, entries_of}
use Rattle.log_shelf.specs.Logs.{body_of, behind, IsImage, IsLog, told_entries, doubted}
use Rattle.log_shelf.proofs.Entries.{length-number_bytes, entries_of-texts, texts_of-append, entries_of-nil}
use Rattle.log_shelf.proofs.Ranges.{torn-front, torn-holds, holds-drop, overwritten-holds}
use Rattle.log_shelf.specs.Outcomes.{overwritten-torn}
use Rattle.log_shelf.proofs.Logs.{parts, behind-holds, gate_image}

-- a log of which a stop leaves nothing else than before
pub log-no_more : (tail : ℕ) (doubt : Bool) (seen : List ℕ) (was now : List ℕ → Type 0) → IsLog tail doubt seen was → NoMore was now
    → IsLog tail doubt seen now
log-no_more tail doubt seen was now log no_more = record {
  low = log.low;
  whole = log.whole;
  images = λ c left. log.images c (no_more c
      left);
  small = log.small;
}

-- what holds of a log after a step: the entries in front of the gate are the same
abbrev pub SameFront : ℕ → List ℕ → List ℕ → Type 0
SameFront tail old new = take tail new ≡ take tail old

-- The gate was written, perhaps not to the end: it is in doubt, with the entry that stood behind it.
pub gate-behind : (tail : ℕ) (seen now : List ℕ) (was : List ℕ → Type 0) → IsLog tail true seen was → was seen → Torn tail 1 seen now
    → behind tail now ≡ behind tail seen
gate-behind tail seen now was log stays torn =
    behind-holds tail now (behind tail seen) (omega (arith, log.small refl))
    (torn-holds tail 1 (tail + 1) seen now (body_of (behind tail seen)) torn (omega arith) ((log.images seen stays).in_doubt refl))

pub gate-front : (tail : ℕ) (doubt : Bool) (seen now : List ℕ) (was : List ℕ → Type 0) (n at : ℕ) → IsLog tail doubt seen was
    → was seen → Torn at n seen now → tail ≤ at
    → SameFront tail seen now
gate-front tail doubt seen now was n at log stays torn h = torn-front tail at n seen now torn h (omega (
  arith,
  (log.images seen
      stays).within,
))

pub log-gate : (tail : ℕ) (seen now : List ℕ) (was left : List ℕ → Type 0) → IsLog tail true seen was → was seen
    → Torn tail 1 seen now → Follows (Torn tail 1) was left
    → IsLog tail true now left
log-gate tail seen now was left log stays torn follows =
    let front = gate-front tail true seen now was 1 tail log stays torn (omega arith) in
    let same = gate-behind tail seen now was log stays torn in
    record {
      low = log.low;
      whole = rw front log.whole;
      images = λ c h. gate_image tail seen now (follows c h).0 c (log.images (follows c h).0 (follows c h).1) ((log.images seen
          stays).within) front same (follows c h).2;
      small = λ h. rw same (log.small refl);
    }

-- The gate was closed, and is on the disk.
pub log-closed : (tail : ℕ) (seen : List ℕ) (was left : List ℕ → Type 0) → IsLog tail true seen was → was seen
    → slice_index seen tail ≢ 1 → Only seen left → IsLog tail false seen left
log-closed tail seen was left log stays closed only =
    record {
      low = log.low;
      whole = log.whole;
      images = λ c h. subst (λ (x : List ℕ). IsImage tail false seen x) (sym (only c h))
          (record { within = (log.images seen stays).within; front = refl; closed = λ p. closed; in_doubt = λ p. absurd (cc) });
      small = λ p. absurd (cc);
    }

-- Something was written behind a closed gate, perhaps not to the end.
body_image : (tail n : ℕ) (seen now d c : List ℕ) → IsImage tail false seen d → take tail now ≡ take tail seen
    → Torn (tail + 1) n d c → IsImage tail false now c
body_image tail n seen now d c image front torn = record {
  within = omega (arith, torn.no_shorter, image.within);
  front = torn-front tail (tail + 1) n d c torn (omega arith) (omega (arith, image.within)) ∙ (image.front ∙ sym front);
  closed = λ h e. image.closed refl (sym (torn.below tail image.within (omega arith)) ∙ e);
  in_doubt = λ h. absurd (cc);
}

pub log-body : (tail n : ℕ) (seen now : List ℕ) (was left : List ℕ → Type 0) → IsLog tail false seen was → was seen
    → Torn (tail + 1) n seen now
    → Follows (Torn (tail + 1) n) was left → IsLog tail false now left
log-body tail n seen now was left log stays torn follows =
    let front = gate-front tail false seen now was n (tail + 1) log stays torn (omega arith) in
    record {
      low = log.low;
      whole = rw front log.whole;
      images = λ c h. body_image tail n seen now (follows c h).0 c (log.images (follows c h).0 (follows c h).1) front (follows c h).2;
      small = λ p. absurd (cc);
    }

-- An entry stands behind a closed gate, on the disk: the gate may be written.
pub log-ready : (tail : ℕ) (seen e : List ℕ) (was left : List ℕ → Type 0) → IsLog tail false seen was → was seen
    → Holds seen (tail + 1) (body_of e) → tail + 10 + length e ≤ 2 ^ 63
    → Only seen left → IsLog tail true seen left
log-ready tail seen e was left log stays held small only =
    let same = behind-holds tail seen e (omega (arith, small)) held in
    record {
      low = log.low;
      whole = log.whole;
      images = λ c h. subst (λ (x : List ℕ). IsImage tail true seen x) (sym (only c h))
          (record { within = (log.images seen stays).within; front = refl; closed = λ p. absurd (cc); in_doubt = λ p. rw same held });
      small = λ p. rw same small;
    }

-- The gate was opened, and is on the disk: the entry counts, and behind it stands a closed gate.
open_parts : (tail : ℕ) (seen e : List ℕ) → tail < length seen → slice_index seen tail ≡ 1 → Holds seen (tail + 1) (body_of e)
    → seen ≡ (take tail seen ++ text_of e) ++ (0 ∷ drop (tail + 1 + length (body_of e)) seen)
open_parts tail seen e within is_open held =
    sym (take-append-drop tail seen)
    ∙ (ap (λ (x : List ℕ). take tail seen ++ x) (drop_more seen tail 0 within
    ∙ (ap (λ (g : ℕ). g ∷ drop (tail + 1) seen) is_open
    ∙ (ap (λ (x : List ℕ). 1 ∷ x) (holds-drop seen (tail + 1) (body_of e) held)
    ∙ parts e (drop (tail + 1 + length (body_of e)) seen))))
    ∙ sym (append_assoc (take tail seen) (text_of e) (0 ∷ drop (tail + 1 + length (body_of e)) seen)))

length-text : (e : List ℕ) → length (text_of e) ≡ 9 + length e
length-text e = omega (arith, length-append (number_bytes (length e)) e, length-number_bytes (length e))

new_front : (tail next : ℕ) (seen e : List ℕ) → tail < length seen → slice_index seen tail ≡ 1 → Holds seen (tail + 1) (body_of e)
    → next ≡ tail + 9 + length e
    → take next seen ≡ take tail seen ++ text_of e
new_front tail next seen e within is_open held n =
    ap (take next) (open_parts tail seen e within is_open held)
    ∙ take_at (take tail seen ++ text_of e) (0 ∷ drop (tail + 1 + length (body_of e)) seen) next
    (length-append (take tail seen) (text_of e) ∙ omega (arith, length-take-le tail seen (omega arith), length-text e, n))

new_gate : (tail next : ℕ) (seen e : List ℕ) → tail < length seen → slice_index seen tail ≡ 1 → Holds seen (tail + 1) (body_of e)
    → next ≡ tail + 9 + length e
    → slice_index seen next ≡ 0
new_gate tail next seen e within is_open held n =
    ap (λ (x : List ℕ). get_or x next 0) (open_parts tail seen e within is_open held)
    ∙ get_or_at (take tail seen ++ text_of e) 0 (drop (tail + 1 + length (body_of e)) seen) 0 next
    (length-append (take tail seen) (text_of e) ∙ omega (arith, length-take-le tail seen (omega arith), length-text e, n))

pub told-opened : (tail next : ℕ) (seen e : List ℕ) → texts_of (entries_of (take tail seen)) ≡ take tail seen → tail < length seen
    → slice_index seen tail ≡ 1
    → Holds seen (tail + 1) (body_of e) → next ≡ tail + 9 + length e → next < 2 ^ 63
    → told_entries next seen ≡ told_entries tail seen ++ e ∷ []
told-opened tail next seen e whole within is_open held n low =
    let told = told_entries tail seen in
    let texts : take next seen ≡ texts_of (told ++ e ∷ []) =
    new_front tail next seen e within is_open held n
    ∙ (ap (λ (x : List ℕ). x ++ text_of e) (sym whole)
    ∙ (ap (λ (x : List ℕ). texts_of told ++ x) (sym (append-nil (text_of e))) ∙ sym (texts_of-append told (e ∷ [])))) in
    ap entries_of (texts ∙ sym (append-nil (texts_of (told ++ e ∷ []))))
    ∙ (entries_of-texts (told ++ e ∷ []) [] (omega (arith, ap length texts, length-take next seen))
    ∙ (ap (λ (x : List (List ℕ)). (told ++ e ∷ []) ++ x) entries_of-nil ∙ append-nil (told ++ e ∷ [])))

pub log-opened : (tail next : ℕ) (seen : List ℕ) (was left : List ℕ → Type 0) → IsLog tail true seen was → was seen
    → slice_index seen tail ≡ 1 → Only seen left
    → next ≡ tail + 9 + length (behind tail seen) → IsLog next false seen left
log-opened tail next seen was left log stays is_open only n =
    let image = log.images seen stays in
    let e = behind tail seen in
    let held = image.in_doubt refl in
    let told = told-opened tail next seen e log.whole image.within is_open held n (omega (arith, log.small refl)) in
    let gate = new_gate tail next seen e image.within is_open held n in
    record {
      low = omega (arith, log.small refl);
      whole = ap texts_of told ∙ (texts_of-append (told_entries tail seen) (e ∷ [])
          ∙ (ap (λ (x : List ℕ). x ++ texts_of (e ∷ [])) log.whole
          ∙ (ap (λ (x : List ℕ). take tail seen ++ x) (append-nil (text_of e))
          ∙ sym (new_front tail next seen e image.within is_open held n))));
      images = λ c h. subst (λ (x : List ℕ). IsImage next false seen x) (sym (only c h))
          (record {
            within = omega (
              arith,
              held.within,
              n,
              length-append (number_bytes (length e)) (e ++ 0 ∷ []),
              length-append e (0 ∷ []),
              length-number_bytes (length e),
            );
            front = refl;
            closed = λ p q. absurd (cc);
            in_doubt = λ p. absurd (cc);
          });
      small = λ p. absurd (cc);
    }

-- What was written to the end changes no more than what may have been cut short.
pub written-torn : (tail at : ℕ) (doubt : Bool) (seen now bytes : List ℕ) (was : List ℕ → Type 0) → IsLog tail doubt seen was
    → was seen → at ≤ tail + 1 → now ≡ overwritten seen at bytes
    → Torn at (length bytes) seen now
written-torn tail at doubt seen now bytes was log stays h written =
    let within = (log.images seen stays).within in
    subst (λ (x : List ℕ). Torn at (length bytes) seen x) (sym written) (overwritten-torn seen at bytes (omega arith))

pub written-holds : (tail at : ℕ) (doubt : Bool) (seen now bytes : List ℕ) (was : List ℕ → Type 0) → IsLog tail doubt seen was
    → was seen → at ≤ tail + 1 → now ≡ overwritten seen at bytes
    → Holds now at bytes
written-holds tail at doubt seen now bytes was log stays h written =
    let within = (log.images seen stays).within in
    subst (λ (x : List ℕ). Holds x at bytes) (sym written) (overwritten-holds seen at bytes (omega arith))

-- A sync changes what reads give in nothing.
pub log-settled : (tail : ℕ) (doubt : Bool) (seen now : List ℕ) (was left : List ℕ → Type 0) → IsLog tail doubt seen was → now ≡ seen
    → NoMore was left → IsLog tail doubt now left
log-settled tail doubt seen now was left log same no_more = subst (λ (x : List ℕ). IsLog tail doubt x left) (sym same) (log-no_more tail
    doubt seen was left log no_more)

-- one byte that a file holds
pub holds-byte : (at b : ℕ) (file : List ℕ) → Holds file at (b ∷ []) → slice_index file at ≡ b
holds-byte at b file held = ap (λ (n : ℕ). get_or file n 0) (omega arith) ∙ held.each 0 (omega arith)

pub not_above : (a b : ℕ) → (a < b → ⊥) → b ≤ a
not_above a b h = omega (arith, h)

-- the length of what stands behind a gate
pub length-body_of : (e : List ℕ) → length (body_of e) ≡ 9 + length e
length-body_of e = omega (
  arith,
  length-append (number_bytes (length e)) (e ++ 0 ∷ []),
  length-append e (0 ∷ []),
  length-number_bytes
      (length e),
)

-- the entry that is in doubt
pub doubted-true : (tail next : ℕ) (doubt : Bool) (seen e : List ℕ) → doubt ≡ true → next ≡ tail → behind tail seen ≡ e
    → doubted next doubt seen ≡ Some e
doubted-true tail next doubt seen e h n same = rw (h, n, same) refl

-- a log without entries
pub log-first : (seen : List ℕ) (left : List ℕ → Type 0) → seen ≡ 0 ∷ [] → Only seen left → IsLog 0 false seen left
log-first seen left is only =
    record {
      low = omega arith;
      whole = ap texts_of entries_of-nil;
      images = λ c h. subst (λ (x : List ℕ). IsImage 0 false seen x) (sym (only c h ∙ is))
          (record { within = omega arith; front = refl; closed = λ p q. absurd (cc); in_doubt = λ p. absurd (cc) });
      small = λ p. absurd (cc);
    }
