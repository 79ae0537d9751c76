-- How bytes are cut at a separator, a text into words, and bytes into lines.
use Rattle.std.proofs.Common.{◌≡◌, ◌≢◌, ℕ, zero, suc, ◌+◌, ◌<◌, List, [], ◌∷◌, ◌++◌, length, take, drop, map, get_or, true, false, Bor}
use Rattle.std.proofs.Common.{refl, sym, ◌∙◌, ap, arith, append_assoc}
use Rattle.std.specs.Prelude.{◌==◌, nat_lt}
use Rattle.std.specs.List.{filter}
use Rattle.std.proofs.lemmas.Bool.Decides.{nat_tests}
use Rattle.std.proofs.lemmas.List.{map-append, append-nil}
use Rattle.std.proofs.lemmas.List.Elements.{filter-append}
use Rattle.script_form.specs.Words.{pieces, words_of, lines_of, text_of}

-- the first separator is at i
pub cut_at : (separator : ℕ) (bytes : List ℕ) (i : ℕ) → i < length bytes → ((k : ℕ) → k < i → get_or bytes k 0 ≢ separator)
    → get_or bytes i 0 ≡ separator
    → pieces separator bytes ≡ take i bytes ∷ pieces separator (drop (i + 1) bytes)
cut_at separator [] i lt before at = absurd (omega arith)
cut_at separator (x ∷ xs) zero lt before at = let is : (x == separator) ≡ true = grind (arith, nat_tests) in rw is refl
cut_at separator (x ∷ xs) (suc i) lt before at =
    let apart : x ≢ separator = before 0 (omega arith) in
    let other : (x == separator) ≡ false = grind (arith, nat_tests) in
    let next : suc i + 1 ≡ suc (i + 1) = omega arith in
    rw (other, next, cut_at separator xs i (omega arith) (λ k l. before (suc k) (omega arith)) at) refl

-- there is none
pub cut_none : (separator : ℕ) (bytes : List ℕ) → ((k : ℕ) → k < length bytes → get_or bytes k 0 ≢ separator)
    → pieces separator bytes ≡ bytes ∷ []
cut_none separator [] before = refl
cut_none separator (x ∷ xs) before =
    let apart : x ≢ separator = before 0 (omega arith) in
    let other : (x == separator) ≡ false = grind (arith, nat_tests) in
    rw (other, cut_none separator xs (λ k l. before (suc k) (omega arith))) refl

-- the words before a space, and those behind it
pub words_cut : (text : List ℕ) (i : ℕ) → i < length text → ((k : ℕ) → k < i → get_or text k 0 ≢ 32) → get_or text i 0 ≡ 32
    → words_of text ≡ filter (λ w. nat_lt 0 (length w)) (take i text ∷ []) ++ words_of (drop (i + 1) text)
words_cut text i lt before at =
    ap (filter (λ w. nat_lt 0 (length w))) (cut_at 32 text i lt before at)
    ∙ filter-append (λ w. nat_lt 0 (length w)) (take i text ∷ []) (pieces 32 (drop (i + 1) text))

-- there is no space
pub words_end : (text : List ℕ) → ((k : ℕ) → k < length text → get_or text k 0 ≢ 32)
    → words_of text ≡ filter (λ w. nat_lt 0 (length w)) (text ∷ [])
words_end text before = ap (filter (λ w. nat_lt 0 (length w))) (cut_none 32 text before)

-- the words so far and those of the rest are those of the whole
pub record Cuts (text : List ℕ) (so_far : List (Bor (List ℕ))) (rest : List ℕ) : Type 0 where
  pub cut : words_of text ≡ map (λ w. w.now) so_far ++ words_of rest

pub cuts_start : (text : List ℕ) → Cuts text [] text
cuts_start text = record { cut = refl }

-- one piece more, which is a word or is empty
pub cuts_word : (text : List ℕ) (so_far : List (Bor (List ℕ))) (word : Bor (List ℕ)) (rest : List ℕ) (i : ℕ) → Cuts text so_far rest
    → i < length rest
    → ((k : ℕ) → k < i → get_or rest k 0 ≢ 32) → get_or rest i 0 ≡ 32 → word.now ≡ take i rest → nat_lt 0 (length word.now) ≡ true
    → Cuts text (so_far ++ word ∷ []) (drop (i + 1) rest)
cuts_word text so_far word rest i c lt before at is some = record {
  cut = c.cut ∙ ap (λ (w : List (List ℕ)). map (λ w. w.now) so_far ++ w)
      (words_cut rest i lt before at ∙ ap (λ (w : List (List ℕ)). w ++ words_of (drop (i + 1) rest))
      (ap (λ (w : List ℕ). filter (λ w. nat_lt 0 (length w)) (w ∷ [])) (sym is) ∙ one word.now some))
      ∙ sym (append_assoc (map (λ w. w.now) so_far) (word.now ∷ []) (words_of (drop (i + 1) rest)))
      ∙ ap (λ (w : List (List ℕ)). w ++ words_of (drop (i + 1) rest)) (sym (map-append (λ (w : Bor (List ℕ)). w.now) so_far (word ∷ [])));
}
  where
    one : (w : List ℕ) → nat_lt 0 (length w) ≡ true → filter (λ w. nat_lt 0 (length w)) (w ∷ []) ≡ w ∷ []
    one w e = rw e refl

pub cuts_none : (text : List ℕ) (so_far : List (Bor (List ℕ))) (word rest : List ℕ) (i : ℕ) → Cuts text so_far rest → i < length rest
    → ((k : ℕ) → k < i → get_or rest k 0 ≢ 32) → get_or rest i 0 ≡ 32 → word ≡ take i rest → nat_lt 0 (length word) ≡ false
    → Cuts text so_far (drop (i + 1) rest)
cuts_none text so_far word rest i c lt before at is none = record {
  cut = c.cut ∙ ap (λ (w : List (List ℕ)). map (λ w. w.now) so_far ++ w)
      (words_cut rest i lt before at ∙ ap (λ (w : List (List ℕ)). w ++ words_of (drop (i + 1) rest))
      (ap (λ (w : List ℕ). filter (λ w. nat_lt 0 (length w)) (w ∷ [])) (sym is) ∙ nothing word none));
}
  where
    nothing : (w : List ℕ) → nat_lt 0 (length w) ≡ false → filter (λ w. nat_lt 0 (length w)) (w ∷ []) ≡ []
    nothing w e = rw e refl

-- the last piece
pub cuts_end : (text : List ℕ) (so_far : List (Bor (List ℕ))) (word : Bor (List ℕ)) (rest : List ℕ) → Cuts text so_far rest
    → ((k : ℕ) → k < length rest → get_or rest k 0 ≢ 32) → word.now ≡ rest → nat_lt 0 (length word.now) ≡ true
    → map (λ w. w.now) (so_far ++ word ∷ []) ≡ words_of text
cuts_end text so_far word rest c before is some =
    map-append (λ (w : Bor (List ℕ)). w.now) so_far (word ∷ [])
    ∙ ap (λ (w : List (List ℕ)). map (λ w. w.now) so_far ++ w)
    (one word.now some ∙ ap (λ (w : List ℕ). filter (λ w. nat_lt 0 (length w)) (w ∷ [])) is ∙ sym (words_end rest before)) ∙ sym c.cut
  where
    one : (w : List ℕ) → nat_lt 0 (length w) ≡ true → w ∷ [] ≡ filter (λ w. nat_lt 0 (length w)) (w ∷ [])
    one w e = rw e refl

pub cuts_over : (text : List ℕ) (so_far : List (Bor (List ℕ))) (word rest : List ℕ) → Cuts text so_far rest
    → ((k : ℕ) → k < length rest → get_or rest k 0 ≢ 32) → word ≡ rest → nat_lt 0 (length word) ≡ false
    → map (λ w. w.now) so_far ≡ words_of text
cuts_over text so_far word rest c before is none =
    sym (append-nil (map (λ w. w.now) so_far))
    ∙ ap (λ (w : List (List ℕ)). map (λ w. w.now) so_far ++ w)
    (nothing word none ∙ ap (λ (w : List ℕ). filter (λ w. nat_lt 0 (length w)) (w ∷ [])) is ∙ sym (words_end rest before)) ∙ sym c.cut
  where
    nothing : (w : List ℕ) → nat_lt 0 (length w) ≡ false → [] ≡ filter (λ w. nat_lt 0 (length w)) (w ∷ [])
    nothing w e = rw e refl

-- the first newline is at i
pub line_at : (bytes : List ℕ) (i : ℕ) → i < length bytes → ((k : ℕ) → k < i → get_or bytes k 0 ≢ 10) → get_or bytes i 0 ≡ 10
    → lines_of bytes ≡ take (i + 1) bytes ∷ lines_of (drop (i + 1) bytes)
line_at [] i lt before at = absurd (omega arith)
line_at (x ∷ xs) zero lt before at = let is : (x == 10) ≡ true = grind (arith, nat_tests) in rw (is, at) refl
line_at (x ∷ xs) (suc i) lt before at =
    let apart : x ≢ 10 = before 0 (omega arith) in
    let other : (x == 10) ≡ false = grind (arith, nat_tests) in
    let next : suc i + 1 ≡ suc (i + 1) = omega arith in
    rw (other, next, line_at xs i (omega arith) (λ k l. before (suc k) (omega arith)) at) refl

pub text_at : (bytes : List ℕ) (i : ℕ) → i < length bytes → ((k : ℕ) → k < i → get_or bytes k 0 ≢ 10) → get_or bytes i 0 ≡ 10
    → text_of (take (i + 1) bytes) ≡ take i bytes
text_at [] i lt before at = absurd (omega arith)
text_at (x ∷ xs) zero lt before at = let is : (x == 10) ≡ true = grind (arith, nat_tests) in rw is refl
text_at (x ∷ xs) (suc i) lt before at =
    let apart : x ≢ 10 = before 0 (omega arith) in
    let other : (x == 10) ≡ false = grind (arith, nat_tests) in
    let next : suc i + 1 ≡ suc (i + 1) = omega arith in
    rw (next, other, text_at xs i (omega arith) (λ k l. before (suc k) (omega arith)) at) refl

-- there is none
pub line_end : (bytes : List ℕ) → 0 < length bytes → ((k : ℕ) → k < length bytes → get_or bytes k 0 ≢ 10) → lines_of bytes ≡ bytes ∷ []
line_end [] some before = absurd (omega arith)
line_end (x ∷ []) some before =
    let apart : x ≢ 10 = before 0 (omega arith) in
    let other : (x == 10) ≡ false = grind (arith, nat_tests) in rw other refl
line_end (x ∷ y ∷ xs) some before =
    let apart : x ≢ 10 = before 0 (omega arith) in
    let other : (x == 10) ≡ false = grind (arith, nat_tests) in
    rw (other, line_end (y ∷ xs) (omega arith) (λ k l. before (suc k) (omega arith))) refl

pub text_end : (bytes : List ℕ) → ((k : ℕ) → k < length bytes → get_or bytes k 0 ≢ 10) → text_of bytes ≡ bytes
text_end [] before = refl
text_end (x ∷ xs) before =
    let apart : x ≢ 10 = before 0 (omega arith) in
    let other : (x == 10) ≡ false = grind (arith, nat_tests) in
    rw (other, text_end xs (λ k l. before (suc k) (omega arith))) refl
