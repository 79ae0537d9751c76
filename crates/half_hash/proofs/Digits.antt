-- What decoding says of the digits of a text.
use Rattle.std.proofs.Common.{◌≡◌, ℕ, zero, suc, ◌+◌, ◌*◌, ◌%◌, ◌<◌, true, is_some, List, [], ◌∷◌, length, slice_index, Option, Some}
use Rattle.std.proofs.Common.{None, Result, Ok, Err, refl, sym, ◌∙◌, ap, subst, arith}
use Rattle.hex.specs.Hex.{decode_of, decode_pairs, decode_sized, digit_or_error, hex_digit_value, is_hex_digit, encode_upper}
use Rattle.hex.specs.Hex.{upper_digits, IsBytes, ◌>>=◌}
use Rattle.hex.specs.declared.error.FromHexError.{FromHexError}
use Rattle.hex.specs.declared.error.FromHexError.TheVariants.{InvalidHexCharacter, OddLength, InvalidStringLength, OutOfMemory}
use Rattle.hex.proofs.HexLemmas.{decode_of-encode_upper, length-encode_with}
use Rattle.half_hash.specs.Hex.{IsFirstBad, IsHexOf}

-- the error names the first bad digit of the text, whose first digit stands at i
abbrev pub Names : ℕ → List ℕ → FromHexError → Type 0
Names i text (InvalidHexCharacter c index) = (k : ℕ) × (index ≡ i + k) × IsFirstBad text k
Names i text OddLength = length text % 2 ≡ 1
Names i text InvalidStringLength = ⊥
Names i text OutOfMemory = ⊥

inner_err : (d e : FromHexError) (r : Result (List ℕ) FromHexError) → r ≡ Err d → r ≡ Err e → d ≡ e
inner_err d e r was is = cc

-- a bad digit behind two good ones
before_two : (h l : ℕ) (rest : List ℕ) (k : ℕ) → is_hex_digit h ≡ true → is_hex_digit l ≡ true
    → ((j : ℕ) → j < k → is_hex_digit (slice_index rest j) ≡ true)
    → (j : ℕ) → j < suc (suc k) → is_hex_digit (slice_index (h ∷ l ∷ rest) j) ≡ true
before_two h l rest k good also before zero lt = good
before_two h l rest k good also before (suc zero) lt = also
before_two h l rest k good also before (suc (suc j)) lt = before j (omega arith)

behind_two : (i h l : ℕ) (rest : List ℕ) (e : FromHexError) → is_hex_digit h ≡ true → is_hex_digit l ≡ true → Names (i + 2) rest e
    → Names i (h ∷ l ∷ rest) e
behind_two i h l rest (InvalidHexCharacter c index) good also (k, at, first) = (
  suc (suc k),
  omega (arith, at),
  record { within = omega (arith, first.within); bad = first.bad; before = before_two h l rest k good also first.before },
)
behind_two i h l rest OddLength good also odd = omega (arith, odd)
behind_two i h l rest InvalidStringLength good also never = absurd never
behind_two i h l rest OutOfMemory good also never = absurd never

rest_fails : (r : Result (List ℕ) FromHexError) (byte : ℕ) (e : FromHexError) → (r >>= (λ bytes. Ok (byte ∷ bytes))) ≡ Err e → r ≡ Err e
rest_fails (Ok bytes) byte e is = cc
rest_fails (Err d) byte e is = is

first_two : (i h l : ℕ) (rest : List ℕ) (e : FromHexError) (o p : Option ℕ) (r : Result (List ℕ) FromHexError) → hex_digit_value h ≡ o
    → hex_digit_value l ≡ p → (r ≡ Err e → Names (i + 2) rest e)
    → ((digit_or_error h i o >>= (λ high. digit_or_error l (i + 1) p >>= (λ low. Ok (high * 16 + low)))) >>=
    (λ byte. r >>= (λ bytes. Ok (byte ∷ bytes)))) ≡ Err e
    → Names i (h ∷ l ∷ rest) e
first_two i h l rest e None p r high low more is =
    subst (Names i (h ∷ l ∷ rest)) (inner_err _ _ _ refl is)
    (0, omega arith, record { within = omega arith; bad = ap is_some high; before = λ k lt. absurd (omega arith) })
first_two i h l rest e (Some a) None r high low more is =
    subst (Names i (h ∷ l ∷ rest)) (inner_err _ _ _ refl is)
    (1, omega arith, record { within = omega arith; bad = ap is_some low; before = only_first })
  where
    only_first : (k : ℕ) → k < 1 → is_hex_digit (slice_index (h ∷ l ∷ rest) k) ≡ true
    only_first zero lt = ap is_some high
    only_first (suc k) lt = absurd (omega arith)
first_two i h l rest e (Some a) (Some b) r high low more is =
    behind_two i h l rest e (ap is_some high) (ap is_some low) (more (rest_fails r _ e is))

pub names : (i : ℕ) (text : List ℕ) (e : FromHexError) → decode_pairs i text ≡ Err e → Names i text e
unfolding decode_pairs
names i [] e is = cc
names i (d ∷ []) e is = subst (Names i (d ∷ [])) (inner_err _ _ _ refl is) refl
names i (h ∷ l ∷ rest) e is = first_two i h l rest e (hex_digit_value h) (hex_digit_value l) (decode_pairs (i + 2) rest) refl refl
    (names (i + 2) rest e) is

sized_is_pairs : (text : List ℕ) → length text ≡ 64 → decode_sized text 32 ≡ decode_pairs 0 text
sized_is_pairs text size = rw size refl

sized_is_of : (text : List ℕ) → length text ≡ 64 → decode_sized text 32 ≡ decode_of text
sized_is_of text size = rw size refl

-- why 64 bytes do not decode
pub why_not : (text : List ℕ) (e : FromHexError) → length text ≡ 64 → decode_sized text 32 ≡ Err e → Names 0 text e
why_not text e size is = names 0 text e (sym (sized_is_pairs text size) ∙ is)

pub first_bad_at : (text : List ℕ) (c index : ℕ) → Names 0 text (InvalidHexCharacter c index) → IsFirstBad text index
first_bad_at text c index (k, at, first) = let e : k ≡ index = omega (arith, at) in subst (IsFirstBad text) e first

pub odd_or_never : (text : List ℕ) (e : FromHexError) → length text ≡ 64 → ((c index : ℕ) → e ≡ InvalidHexCharacter c index → ⊥)
    → Names 0 text e → ⊥
odd_or_never text (InvalidHexCharacter c index) size other named = other c index refl
odd_or_never text OddLength size other odd =
    absurd (let even : length text % 2 ≡ 0 = ap (λ n. n % 2) size in let o : length text % 2 ≡ 1 = odd in omega (arith, even, o))
odd_or_never text InvalidStringLength size other never = never
odd_or_never text OutOfMemory size other never = never

-- 64 bytes that decode are the text of their hash
pub decoded : (text hash : List ℕ) → length text ≡ 64 → decode_sized text 32 ≡ Ok hash → IsHexOf text hash
decoded text hash size is = record { digits = size; value = sym (sized_is_of text size) ∙ is }

-- the digits of 32 bytes read back
pub reads_back : (hash : List ℕ) → length hash ≡ 32 → IsBytes hash → IsHexOf (encode_upper hash) hash
reads_back hash size each = record
    { digits = length-encode_with upper_digits hash ∙ ap (λ n. 2 * n) size; value = decode_of-encode_upper hash each }
