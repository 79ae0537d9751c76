-- The value of decimal digits, one digit more at a time, up to the first that makes it too large.
use Rattle.std.proofs.Common.{◌≡◌, ℕ, ◌+◌, ◌-◌, ◌*◌, ◌<◌, ◌≤◌, List, [], ◌∷◌, ◌++◌, length, take, drop, get_or, Bool, true, refl, sym}
use Rattle.std.proofs.Common.{◌∙◌, ap, arith}
use Rattle.std.specs.Prelude.{IsTrue, ◌&&◌}
use Rattle.std.specs.List.{list_all}
use Rattle.std.specs.Char.{is_ascii_digit}
use Rattle.std.proofs.lemmas.List.{take_more, take-append-drop}
use Rattle.std.proofs.lemmas.List.Folds.{list_all_more}
use Rattle.script_form.specs.Words.{decimal_behind, IsNumber}

pub decimal-append : (n : ℕ) (a b : List ℕ) → decimal_behind n (a ++ b) ≡ decimal_behind (decimal_behind n a) b
decimal-append n [] b = refl
decimal-append n (x ∷ xs) b = decimal-append (n * 10 + (x - 48)) xs b

-- further digits don't make it less
pub decimal_grows : (n : ℕ) (digits : List ℕ) → n ≤ decimal_behind n digits
decimal_grows n [] = omega arith
decimal_grows n (x ∷ xs) = omega (arith, decimal_grows (n * 10 + (x - 48)) xs)

-- one digit more
pub decimal_more : (word : List ℕ) (i value next : ℕ) → i < length word → value ≡ decimal_behind 0 (take i word)
    → next ≡ value * 10 + (get_or word i 0 - 48) → next ≡ decimal_behind 0 (take (i + 1) word)
decimal_more word i value next lt so_far is = is ∙ rw (take_more word i 0 lt, decimal-append 0 (take i word) (get_or word i 0 ∷ []))
    (ap (λ (n : ℕ). n * 10 + (get_or word i 0 - 48)) so_far)

-- a front of the digits is too much already
pub too_much : (word : List ℕ) (i most next n : ℕ) → next ≡ decimal_behind 0 (take i word) → most < next → IsNumber word most n → ⊥
too_much word i most next n front more is =
    let whole : decimal_behind 0 word ≡ decimal_behind (decimal_behind 0 (take i word)) (drop i word) =
    ap (decimal_behind 0) (sym (take-append-drop i word)) ∙ decimal-append 0 (take i word) (drop i word) in
    let grows = decimal_grows (decimal_behind 0 (take i word)) (drop i word) in
    omega (arith, whole, grows, front, more, is.value, is.within)

pub digits_more : (word : List ℕ) (i : ℕ) → i < length word → IsTrue (list_all is_ascii_digit (take i word))
    → is_ascii_digit (get_or word i 0) ≡ true → IsTrue (list_all is_ascii_digit (take (i + 1) word))
digits_more word i lt so_far here =
    let e : list_all is_ascii_digit (take (i + 1) word) ≡ true = list_all_more is_ascii_digit word i 0 lt
    ∙ ap (λ (b : Bool). b && is_ascii_digit (get_or word i 0)) so_far ∙ here in
    e
