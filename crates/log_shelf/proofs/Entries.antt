-- What is read of entries that were written one after another.
use Rattle.std.proofs.Common.{◌≡◌, ◌≢◌, ◌∙◌, sym, ap, refl, ℕ, zero, suc, ◌<◌, ◌≤◌, ◌^◌, List, [], ◌∷◌, ◌++◌, length, drop, arith}
use Rattle.std.proofs.Common.{append_assoc, length-append, length-drop}
use Rattle.std.specs.Prelude.{true, Option, None, Some}
use Rattle.std.specs.Int.{w64, to_be_bytes, from_be_bytes}
use Rattle.std.proofs.lemmas.Nat.{from_be_bytes-to_be_bytes_8}
use Rattle.std.proofs.lemmas.List.{take_at, drop_at}
use Rattle.std.proofs.lemmas.Bool.{cond-true}
use Rattle.std.proofs.lemmas.Bool.Decides.{nat_tests}
use Rattle.std.proofs.lemmas.Option.{cond_some}
use Rattle.log_shelf.specs.Entries.{number_bytes, number_in, text_of, texts_of, is_whole, front_of, entries_in, entries_of}

-- a length takes eight bytes
pub length-number_bytes : (n : ℕ) → length (number_bytes n) ≡ 8
unfolding number_bytes
length-number_bytes n = refl

-- the length that was written is read
pub number_in-text : (n : ℕ) (rest : List ℕ) → n < 2 ^ 64 → number_in (number_bytes n ++ rest) ≡ n
unfolding number_in number_bytes
number_in-text n rest h = ap (from_be_bytes w64) (take_at (to_be_bytes w64 n) rest 8 refl) ∙ from_be_bytes-to_be_bytes_8 n h

-- so many bytes stand behind it
whole_text : (e rest : List ℕ) → length e < 2 ^ 64 → is_whole (number_bytes (length e) ++ (e ++ rest)) ≡ true
whole_text e rest h = rw (
  number_in-text (length e) (e ++ rest) h,
  drop_at (number_bytes (length e)) (e ++ rest) 8 (length-number_bytes
      (length e)),
)
    (grind (arith, nat_tests, length-append, length-number_bytes))

-- an entry that was written is read
front_of-parts : (e rest : List ℕ) → length e < 2 ^ 64 → front_of (1 ∷ number_bytes (length e) ++ (e ++ rest)) ≡ Some (e, rest)
unfolding front_of
front_of-parts e rest h = cond-true _ _ _ (whole_text e rest h)
    ∙ rw (
      number_in-text (length e) (e ++ rest) h,
      drop_at (number_bytes (length e)) (e ++ rest) 8 (length-number_bytes (length e)),
      take_at e rest (length e) refl,
      drop_at e rest (length e) refl,
    ) refl

pub front_of-text : (e rest : List ℕ) → length e < 2 ^ 64 → front_of (text_of e ++ rest) ≡ Some (e, rest)
front_of-text e rest h = ap front_of (ap (λ (x : List ℕ). 1 ∷ x) (append_assoc (number_bytes (length e)) e rest)) ∙ front_of-parts e rest h

-- what lies behind the entry at the front is shorter
pub front_of-shorter : (bytes : List ℕ) (found : List ℕ × List ℕ) → front_of bytes ≡ Some found → length found.1 < length bytes
unfolding front_of
front_of-shorter [] found h = absurd (cc)
front_of-shorter (gate ∷ rest) found h =
    let e = (cond_some _ _ _ h).1 in
    omega (arith, ap (λ (x : List ℕ × List ℕ). length x.1) e, length-drop (number_in rest) (drop 8 rest), length-drop 8 rest)

-- behind a closed gate nothing is read
pub front_of-closed : (gate : ℕ) (rest : List ℕ) → gate ≢ 1 → front_of (gate ∷ rest) ≡ None
unfolding front_of
front_of-closed gate rest h = grind (arith, nat_tests, h)

-- more turns than bytes don't matter
same_turns : (k m : ℕ) (bytes : List ℕ) (front : Option (List ℕ × List ℕ)) → front_of bytes ≡ front → length bytes ≤ k → length bytes ≤ m
    → entries_in k front ≡ entries_in m front
unfolding entries_in
same_turns k m bytes None e h j = refl
same_turns zero m bytes (Some found) e h j = absurd (omega (arith, front_of-shorter bytes found e))
same_turns (suc k) zero bytes (Some found) e h j = absurd (omega (arith, front_of-shorter bytes found e))
same_turns (suc k) (suc m) bytes (Some found) e h j =
    let shorter = front_of-shorter bytes found e in
    ap (λ (xs : List (List ℕ)). found.0 ∷ xs) (same_turns k m found.1 (front_of found.1) refl (omega arith) (omega arith))

first_turn : (n : ℕ) (bytes : List ℕ) (found : List ℕ × List ℕ) → length bytes ≡ n → front_of bytes ≡ Some found
    → entries_in n (Some found) ≡ found.0 ∷ entries_of found.1
unfolding entries_in entries_of
first_turn zero bytes found l e = absurd (omega (arith, front_of-shorter bytes found e))
first_turn (suc k) bytes found l e =
    let shorter = front_of-shorter bytes found e in
    ap (λ (xs : List (List ℕ)). found.0 ∷ xs) (same_turns k (length found.1) found.1 (front_of found.1) refl (omega arith) (omega arith))

-- what is read is the entry at the front, and then what lies behind it
pub entries_of-some : (bytes : List ℕ) (found : List ℕ × List ℕ) → front_of bytes ≡ Some found
    → entries_of bytes ≡ found.0 ∷ entries_of found.1
unfolding entries_of
entries_of-some bytes found h = rw h (first_turn (length bytes) bytes found refl h)

pub entries_of-none : (bytes : List ℕ) → front_of bytes ≡ None → entries_of bytes ≡ []
unfolding entries_of entries_in
entries_of-none bytes h = rw h refl

pub entries_of-text : (e rest : List ℕ) → length e < 2 ^ 64 → entries_of (text_of e ++ rest) ≡ e ∷ entries_of rest
entries_of-text e rest h = entries_of-some (text_of e ++ rest) (e, rest) (front_of-text e rest h)

pub entries_of-nil : entries_of [] ≡ []
unfolding entries_of entries_in front_of
entries_of-nil = refl

-- entries that were written are read, and then what is behind them
pub entries_of-texts : (es : List (List ℕ)) (rest : List ℕ) → length (texts_of es) < 2 ^ 64
    → entries_of (texts_of es ++ rest) ≡ es ++ entries_of rest
entries_of-texts [] rest h = refl
entries_of-texts (e ∷ es) rest h =
    let l = length-append (text_of e) (texts_of es) in
    let m = length-append (number_bytes (length e)) e in
    ap entries_of (append_assoc (text_of e) (texts_of es) rest)
    ∙ (entries_of-text e (texts_of es ++ rest) (omega (arith, l, m))
    ∙ ap (λ (xs : List (List ℕ)). e ∷ xs) (entries_of-texts es rest (omega (arith, l))))

-- one entry more at the end
pub texts_of-append : (es fs : List (List ℕ)) → texts_of (es ++ fs) ≡ texts_of es ++ texts_of fs
texts_of-append [] fs = refl
texts_of-append (e ∷ es) fs = ap (λ (xs : List ℕ). text_of e ++ xs) (texts_of-append es fs)
    ∙ sym (append_assoc (text_of e) (texts_of es) (texts_of fs))
