-- Digits in the lanes of vectors.
use Rattle.std.proofs.Common.{◌≡◌, ℕ, ◌+◌, ◌-◌, ◌*◌, ◌%◌, ◌^◌, ◌&&◌, ◌<◌, ◌≤◌, List, [], ◌∷◌, ◌++◌, Bool, true, false, cond, leb, ltb, length, get_or, map, replicate, bit_and}
use Rattle.std.proofs.Common.{refl, sym, ap, subst, ◌∙◌, arith, w8, Fits}
use Rattle.std.specs.Prelude.{Option, Some, None, MatchOption, nat_eq, nat_lt, nat_le}
use Rattle.std.specs.List.{list_all, range_with_len}
use Rattle.std.proofs.lemmas.List.FromFn.{get_or-range_with_len}
use Rattle.std.specs.Simd.Lanes.{Each1, zip2, sel_l, mask_l, top, pick_l}
use Rattle.std.proofs.lemmas.Simd.{pick_l_whole, tops_compared, mask_l-mod}
use Rattle.std.proofs.lemmas.List.{length-map}
use Rattle.std.proofs.lemmas.List.Sums.{AllPass-from_list_all}
use Rattle.hex.specs.Hex.{hex_digit_value}
use Rattle.hex_digits.specs.Lanes.{IsValue, AreValues, bytes_of, is_low}

-- what a lane chooses by a comparison
abbrev chosen : Bool → ℕ → ℕ → ℕ
chosen b x y = cond (leb 128 (cond b 255 0)) x y

abbrev minus : ℕ → ℕ → ℕ
minus a b = (a + (256 - b)) % 256

abbrev number : ℕ → ℕ
number c = minus (chosen (ltb ((c + 198) % 256) 6) 6 ((c + 198) % 256)) 246

abbrev from_a : ℕ → ℕ
from_a c = minus (bit_and c 223) 65

abbrev letter : ℕ → ℕ
letter c = (chosen (ltb (from_a c) 245) (from_a c) 245 + 10) % 256

-- what a lane makes of a byte
abbrev pub lane : ℕ → ℕ
lane c = chosen (ltb (number c) (letter c)) (number c) (letter c)

-- it is the value of a digit, as a test
abbrev fits_value : Option ℕ → ℕ → Bool
fits_value None x = nat_le 16 x
fits_value (Some v) x = nat_eq x v && nat_lt x 16

abbrev passes : ℕ → Bool
passes c = fits_value (hex_digit_value c) (lane c)

all_pass : list_all passes (range_with_len 0 256) ≡ true
all_pass = refl

-- both tests hold
pub and_true : (a b : Bool) → (a && b) ≡ true → (a ≡ true) × (b ≡ true)
and_true true b e = (refl, e)
and_true false b e = cc e

fits_by : (o : Option ℕ) (x : ℕ) → fits_value o x ≡ true → MatchOption o (16 ≤ x) (λ v. (x ≡ v) × (x < 16))
fits_by None x e = grind (arith, e)
fits_by (Some v) x e =
    let both = and_true (nat_eq x v) (nat_lt x 16) e in
    (grind (arith, both.0), grind (arith, both.1))

-- each byte's lane has its value
sound : (c : ℕ) → c < 256 → IsValue c (lane c)
sound c low =
    let same : 0 + c ≡ c = omega arith in
    let e = AllPass-from_list_all passes (range_with_len 0 256) all_pass c 0 low in
    fits_by (hex_digit_value c) (lane c) (subst (λ x. passes x ≡ true) (get_or-range_with_len 0 256 c 0 low ∙ same) e)

pub all_values : (v : List ℕ) → Each1 (Fits w8) v → AreValues v (map lane v)
all_values [] fits = tt
all_values (c ∷ v) fits = (sound c fits.0.fits, all_values v fits.1)

abbrev lesser : List ℕ → List ℕ → List ℕ → List ℕ → List ℕ
lesser a b x y = sel_l (map (top 7) (zip2 (λ a b. cond (ltb a b) 255 0) a b)) x y

abbrev plus : List ℕ → ℕ → List ℕ
plus v n = zip2 (λ a b. (a + b) % 256) v (replicate 32 n)

abbrev reduced : List ℕ → ℕ → List ℕ
reduced v n = zip2 minus v (replicate 32 n)

abbrev numbers : List ℕ → List ℕ
numbers v = reduced (lesser (plus v 198) (replicate 32 6) (replicate 32 6) (plus v 198)) 246

abbrev from_as : List ℕ → List ℕ
from_as v = reduced (zip2 bit_and v (replicate 32 223)) 65

abbrev letters : List ℕ → List ℕ
letters v = plus (lesser (from_as v) (replicate 32 245) (from_as v) (replicate 32 245)) 10

abbrev pub lanes_of : List ℕ → List ℕ
lanes_of v = lesser (numbers v) (letters v) (numbers v) (letters v)

-- the lanes of a vector, each by itself
pub lanes_are : (v : List ℕ) → length v ≡ 32 → lanes_of v ≡ map lane v
lanes_are v long = subst (λ w. lanes_of w ≡ map lane w) (pick_l_whole 0 v 32 long) refl

-- the bytes of a vector, each by itself
pub joined_is : (v : List ℕ) → length v ≡ 32
    → map (λ k. (get_or (v ++ v) (2 * k) 0 * 16 % 256 + get_or (v ++ v) (2 * k + 1) 0) % 256) (range_with_len 0 16) ≡ bytes_of v
joined_is v long =
    subst (λ w. map (λ k. (get_or (w ++ w) (2 * k) 0 * 16 % 256 + get_or (w ++ w) (2 * k + 1) 0) % 256) (range_with_len 0 16) ≡ bytes_of w)
    (pick_l_whole 0 v 32 long) refl

splat_zip2 : {Z : Type 0} (f : ℕ → ℕ → Z) (x : ℕ) (ys : List ℕ) → zip2 f (replicate (length ys) x) ys ≡ map (f x) ys
splat_zip2 f x [] = refl
splat_zip2 f x (y ∷ ys) = ap (λ rest. f x y ∷ rest) (splat_zip2 f x ys)

no_mark : (x m : ℕ) (b : Bool) → leb 16 x ≡ b → nat_eq (cond b 1 0 + 2 * m) 0 ≡ (is_low x && nat_eq m 0)
no_mark x m true e = grind (arith, e)
no_mark x m false e = grind (arith, e)

no_marks : (v : List ℕ) → nat_eq (mask_l (map (leb 16) v)) 0 ≡ list_all is_low v
no_marks [] = refl
no_marks (x ∷ v) = no_mark x (mask_l (map (leb 16) v)) (leb 16 x) refl ∙ ap (λ b. is_low x && b) (no_marks v)

-- the marks of the lanes that are no values of digits
pub marks_are : (v : List ℕ) → length v ≡ 32
    → nat_eq (mask_l (map (top 7) (zip2 (λ a b. cond (leb a b) 255 0) (replicate 32 16) v)) % 2 ^ 64) 0 ≡ list_all is_low v
marks_are v long =
    let few : length (map (leb 16) v) ≤ 64 = omega (arith, length-map v (leb 16), long) in
    ap (λ ms. nat_eq (mask_l ms % 2 ^ 64) 0) (tops_compared w8 leb (replicate 32 16) v ∙ ap (λ m. zip2 leb (replicate m 16) v) (sym long) ∙ splat_zip2 leb 16 v)
    ∙ ap (λ n. nat_eq n 0) (mask_l-mod (map (leb 16) v) 64 few) ∙ no_marks v
