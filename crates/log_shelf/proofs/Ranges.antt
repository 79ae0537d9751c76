-- What a write that may be cut short leaves of a file.
use Rattle.std.proofs.Common.{◌≡◌, ◌∙◌, sym, ap, refl, subst, ℕ, ◌+◌, ◌<◌, ◌≤◌, List, ◌++◌, length, take, drop, arith, length-append}
use Rattle.std.proofs.Common.{length-drop, length-take}
use Rattle.std.proofs.lemmas.List.{take-append-drop, get_or-take, get_or-drop, drop-drop, length-take-le, get_or_append_left}
use Rattle.std.proofs.lemmas.List.{get_or-append-add}
use Rattle.std.proofs.lemmas.Grind.{same_number_lists}
use Rattle.log_shelf.specs.Disks.{Holds, Torn, overwritten}
use Rattle.log_shelf.specs.Outcomes.{overwritten-within}

-- the bytes below the range stay
pub torn-front : (k at n : ℕ) (old new : List ℕ) → Torn at n old new → k ≤ at → k ≤ length old → take k new ≡ take k old
torn-front k at n old new t h j =
    same_number_lists (take k new) (take k old)
    (length-take-le k new (omega (arith, t.no_shorter)) ∙ sym (length-take-le k old j))
    (λ i l. let m : i < k = omega (arith, l, length-take k new) in
    get_or-take k new i 0 m ∙ (t.below i (omega arith) (omega arith) ∙ sym (get_or-take k old i 0 m)))

-- bytes above the range stay
pub torn-holds : (at n place : ℕ) (old new bytes : List ℕ) → Torn at n old new → at + n ≤ place → Holds old place bytes
    → Holds new place bytes
torn-holds at n place old new bytes t h held = record {
  within = omega (arith, t.no_shorter, held.within);
  each = λ i l. t.above (place + i) (omega (arith, held.within)) (omega arith) ∙ held.each i l;
}

-- bytes that a file holds are a part of it
pub holds-take : (file : List ℕ) (at : ℕ) (bytes : List ℕ) → Holds file at bytes → take (length bytes) (drop at file) ≡ bytes
holds-take file at bytes h =
    let l : length (take (length bytes) (drop at file)) ≡ length bytes = length-take-le (length bytes) (drop at file) (omega (
      arith,
      h.within,
      length-drop at file,
    )) in
    same_number_lists (take (length bytes) (drop at file)) bytes l
    (λ i j. let m : i < length bytes = omega (arith, j, l) in
    get_or-take (length bytes) (drop at file) i 0 m ∙ (get_or-drop at file i 0 ∙ h.each i m))

pub holds-drop : (file : List ℕ) (at : ℕ) (bytes : List ℕ) → Holds file at bytes → drop at file ≡ bytes ++ drop (at + length bytes) file
holds-drop file at bytes h =
    sym (take-append-drop (length bytes) (drop at file))
    ∙ (ap (λ (x : List ℕ). x ++ drop (length bytes) (drop at file)) (holds-take file at bytes h)
    ∙ ap (λ (x : List ℕ). bytes ++ x) (drop-drop (length bytes) at file))

-- the same as three parts
mid-holds : (front bytes rest : List ℕ) → Holds (front ++ (bytes ++ rest)) (length front) bytes
mid-holds front bytes rest = record {
  within = omega (arith, length-append front (bytes ++ rest), length-append bytes rest);
  each = λ i l. get_or-append-add front (bytes ++ rest) i 0 ∙ get_or_append_left bytes rest 0 i l;
}

pub overwritten-holds : (file : List ℕ) (at : ℕ) (bytes : List ℕ) → at ≤ length file → Holds (overwritten file at bytes) at bytes
overwritten-holds file at bytes h =
    subst (λ (x : List ℕ). Holds x at bytes) (sym (overwritten-within file at bytes h))
    (subst (λ (n : ℕ). Holds (take at file ++ (bytes ++ drop (at + length bytes) file)) n bytes) (length-take-le at file h)
    (mid-holds (take at file) bytes (drop (at + length bytes) file)))

pub torn-same : (at n : ℕ) (file : List ℕ) → Torn at n file file
torn-same at n file = record { no_shorter = omega arith; below = λ i l m. refl; above = λ i l m. refl }
