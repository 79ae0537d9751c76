-- Bytes in order, eight at a time: as numbers with the high byte first.
use Rattle.std.proofs.Common.{◌≡◌, ℕ, suc, zero, ◌+◌, ◌*◌, ◌≤◌, ◌<◌, List, [], ◌∷◌, length, take, drop, get_or, sym, ap, ◌∙◌, arith, refl}
use Rattle.std.proofs.Common.{Ordering, length-take, length-drop, drop-drop}
use Rattle.std.specs.Int.{w64, from_be_bytes}
use Rattle.std.specs.Ordering.{nat_cmp, ordering_then, MatchOrdering}
use Rattle.std.specs.declared.cmp.Ordering.TheVariants.{Less, Equal, Greater}
use Rattle.std.specs.Cmp.{ranks, nat_cmp_is}
use Rattle.std.specs.Cmp.Lexicographic.{slice_cmp}
use Rattle.std.proofs.lemmas.List.{get_or-take, get_or-drop}

-- the number that bytes spell behind those that spell n
abbrev spelt_from : ℕ → List ℕ → ℕ
spelt_from n [] = n
spelt_from n (b ∷ bytes) = spelt_from (n * 256 + b) bytes

-- each is a byte
abbrev pub Small : List ℕ → Type 0
Small bytes = (k : ℕ) → get_or bytes k 0 < 256

then_assoc : (a b c : Ordering) → ordering_then (ordering_then a b) c ≡ ordering_then a (ordering_then b c)
then_assoc Less b c = refl
then_assoc Equal b c = refl
then_assoc Greater b c = refl

then_equal : (a : Ordering) → a ≡ ordering_then a Equal
then_equal Less = refl
then_equal Equal = refl
then_equal Greater = refl

-- of two numbers the parts above the low byte decide, and then the low bytes
both_parts : (p q u v : ℕ) → u < 256 → v < 256 → (a b : Ordering) → MatchOrdering a (p < q) (p ≡ q) (q < p)
    → MatchOrdering b (u < v) (u ≡ v) (v < u)
    → MatchOrdering (ordering_then a b) (p * 256 + u < q * 256 + v) (p * 256 + u ≡ q * 256 + v) (q * 256 + v < p * 256 + u)
both_parts p q u v small less Less b h k = let e : p < q = h in omega arith
both_parts p q u v small less Greater b h k = let e : q < p = h in omega arith
both_parts p q u v small less Equal Less h k = let e : p ≡ q = h in let f : u < v = k in omega arith
both_parts p q u v small less Equal Equal h k = let e : p ≡ q = h in let f : u ≡ v = k in omega arith
both_parts p q u v small less Equal Greater h k = let e : p ≡ q = h in let f : v < u = k in omega arith

one_more : (p q u v : ℕ) → u < 256 → v < 256 → nat_cmp (p * 256 + u) (q * 256 + v) ≡ ordering_then (nat_cmp p q) (nat_cmp u v)
one_more p q u v small less =
    sym (nat_cmp_is (p * 256 + u) (q * 256 + v) _ (both_parts p q u v small less (nat_cmp p q) (nat_cmp u v) (ranks p q) (ranks u v)))

-- bytes are in the order of the numbers that they spell
in_order : (p q : ℕ) (us vs : List ℕ) → length us ≡ length vs → Small us → Small vs
    → nat_cmp (spelt_from p us) (spelt_from q vs) ≡ ordering_then (nat_cmp p q) (slice_cmp nat_cmp us vs)
in_order p q [] [] e a b = then_equal (nat_cmp p q)
in_order p q [] (v ∷ vs) e a b = absurd (omega (arith, e))
in_order p q (u ∷ us) [] e a b = absurd (omega (arith, e))
in_order p q (u ∷ us) (v ∷ vs) e a b =
    in_order (p * 256 + u) (q * 256 + v) us vs (omega (arith, e)) (λ k. a (suc k)) (λ k. b (suc k))
    ∙ ap (λ r. ordering_then r (slice_cmp nat_cmp us vs)) (one_more p q u v (a 0) (b 0))
    ∙ then_assoc (nat_cmp p q) (nat_cmp u v) (slice_cmp nat_cmp us vs)

eight_spell : (bytes : List ℕ) → length bytes ≡ 8 → from_be_bytes w64 bytes ≡ spelt_from 0 bytes
eight_spell (a ∷ b ∷ c ∷ d ∷ e ∷ f ∷ g ∷ h ∷ []) size = omega arith
eight_spell [] size = absurd (omega (arith, size))
eight_spell (a ∷ []) size = absurd (omega (arith, size))
eight_spell (a ∷ b ∷ []) size = absurd (omega (arith, size))
eight_spell (a ∷ b ∷ c ∷ []) size = absurd (omega (arith, size))
eight_spell (a ∷ b ∷ c ∷ d ∷ []) size = absurd (omega (arith, size))
eight_spell (a ∷ b ∷ c ∷ d ∷ e ∷ []) size = absurd (omega (arith, size))
eight_spell (a ∷ b ∷ c ∷ d ∷ e ∷ f ∷ []) size = absurd (omega (arith, size))
eight_spell (a ∷ b ∷ c ∷ d ∷ e ∷ f ∷ g ∷ []) size = absurd (omega (arith, size))
eight_spell (a ∷ b ∷ c ∷ d ∷ e ∷ f ∷ g ∷ h ∷ i ∷ more) size = absurd (omega (arith, size))

-- the first bytes decide, and then the rest
split_order : (n : ℕ) (xs ys : List ℕ) → n ≤ length xs → n ≤ length ys
    → slice_cmp nat_cmp xs ys ≡ ordering_then (slice_cmp nat_cmp (take n xs) (take n ys)) (slice_cmp nat_cmp (drop n xs) (drop n ys))
split_order zero xs ys a b = refl
split_order (suc n) [] ys a b = absurd (omega arith)
split_order (suc n) (x ∷ xs) [] a b = absurd (omega arith)
split_order (suc n) (x ∷ xs) (y ∷ ys) a b =
    ap (λ r. ordering_then (nat_cmp x y) r) (split_order n xs ys (omega arith) (omega arith))
    ∙ sym (then_assoc (nat_cmp x y) (slice_cmp nat_cmp (take n xs) (take n ys)) (slice_cmp nat_cmp (drop n xs) (drop n ys)))

small_word : (at : ℕ) (xs : List ℕ) → Small xs → length (take 8 (drop at xs)) ≡ 8 → Small (take 8 (drop at xs))
small_word at xs small size k = by (nat_cmp k 8) (ranks k 8)
  where
    past : (l : List ℕ) (i : ℕ) → length l ≤ i → get_or l i 0 ≡ 0
    past [] i le = refl
    past (x ∷ l) zero le = absurd (omega arith)
    past (x ∷ l) (suc i) le = past l i (omega arith)

    within : k < 8 → get_or (take 8 (drop at xs)) k 0 < 256
    within lt = omega (arith, get_or-take 8 (drop at xs) k 0 lt, get_or-drop at xs k 0, small (at + k))

    beyond : 8 ≤ k → get_or (take 8 (drop at xs)) k 0 < 256
    beyond le = omega (arith, past (take 8 (drop at xs)) k (omega arith))

    by : (r : Ordering) → MatchOrdering r (k < 8) (k ≡ 8) (8 < k) → get_or (take 8 (drop at xs)) k 0 < 256
    by Less h = within h
    by Equal h = let e : k ≡ 8 = h in beyond (omega arith)
    by Greater h = let e : 8 < k = h in beyond (omega arith)

-- the next word decides, and then the rest
word_decides : (xs ys : List ℕ) (at a b : ℕ) → at + 8 ≤ length xs → at + 8 ≤ length ys → Small xs → Small ys
    → a ≡ from_be_bytes w64 (take 8 (drop at xs)) → b ≡ from_be_bytes w64 (take 8 (drop at ys))
    → slice_cmp nat_cmp (drop at xs) (drop at ys)
    ≡ ordering_then (nat_cmp a b) (slice_cmp nat_cmp (drop 8 (drop at xs)) (drop 8 (drop at ys)))
word_decides xs ys at a b le lt small less e f =
    let u = take 8 (drop at xs) in
    let v = take 8 (drop at ys) in
    let m : length u ≡ 8 = omega (arith, length-take 8 (drop at xs), length-drop at xs) in
    let n : length v ≡ 8 = omega (arith, length-take 8 (drop at ys), length-drop at ys) in
    let numbers : nat_cmp a b ≡ slice_cmp nat_cmp u v =
    ap (λ k. nat_cmp k b) (e ∙ eight_spell u m) ∙ ap (λ k. nat_cmp (spelt_from 0 u) k) (f ∙ eight_spell v n)
    ∙ in_order 0 0 u v (omega (arith, m, n)) (small_word at xs small m) (small_word at ys less n) in
    split_order 8 (drop at xs) (drop at ys) (omega (arith, length-drop at xs)) (omega (arith, length-drop at ys))
    ∙ ap (λ r. ordering_then r (slice_cmp nat_cmp (drop 8 (drop at xs)) (drop 8 (drop at ys)))) (sym numbers)

-- the bytes from a place on are the eight of a word
pub word_is : (bytes : List ℕ) (at n : ℕ) → n ≡ from_be_bytes w64 (get_or bytes at 0 ∷ get_or bytes (at + 1) 0 ∷ get_or bytes (at + 2) 0
    ∷ get_or bytes (at + 3) 0 ∷ get_or bytes (at + 4) 0 ∷ get_or bytes (at + 5) 0 ∷ get_or bytes (at + 6) 0 ∷ get_or bytes (at + 7) 0 ∷ [])
    → n ≡ from_be_bytes w64 (take 8 (drop at bytes))
word_is bytes at n e = omega (
  arith,
  e,
  is 0 (omega arith),
  is 1 (omega arith),
  is 2 (omega arith),
  is 3 (omega arith),
  is 4 (omega arith),
  is 5 (omega arith),
  is 6 (omega arith),
  is 7 (omega arith),
  ap (λ k. get_or bytes k 0) whole,
)
  where
    is : (k : ℕ) → k < 8 → get_or (take 8 (drop at bytes)) k 0 ≡ get_or bytes (at + k) 0
    is k lt = get_or-take 8 (drop at bytes) k 0 lt ∙ get_or-drop at bytes k 0

    whole : at + 0 ≡ at
    whole = omega arith

-- two words that differ decide
pub apart : (xs ys : List ℕ) (at a b : ℕ) → at + 8 ≤ length xs → at + 8 ≤ length ys → Small xs → Small ys
    → a ≡ from_be_bytes w64 (take 8 (drop at xs)) → b ≡ from_be_bytes w64 (take 8 (drop at ys)) → (a ≡ b → ⊥)
    → slice_cmp nat_cmp (drop at xs) (drop at ys) ≡ nat_cmp a b
apart xs ys at a b le lt small less e f differ =
    word_decides xs ys at a b le lt small less e f
    ∙ by (nat_cmp a b) (slice_cmp nat_cmp (drop 8 (drop at xs)) (drop 8 (drop at ys))) (ranks a b)
  where
    by : (r o : Ordering) → MatchOrdering r (a < b) (a ≡ b) (b < a) → ordering_then r o ≡ r
    by Less o h = refl
    by Equal o h = absurd (differ h)
    by Greater o h = refl

-- two words that are one leave it to the rest
pub alike : (xs ys : List ℕ) (at next a b : ℕ) → at + 8 ≤ length xs → at + 8 ≤ length ys → next ≡ at + 8 → Small xs → Small ys
    → a ≡ from_be_bytes w64 (take 8 (drop at xs)) → b ≡ from_be_bytes w64 (take 8 (drop at ys)) → a ≡ b
    → slice_cmp nat_cmp (drop at xs) (drop at ys) ≡ slice_cmp nat_cmp (drop next xs) (drop next ys)
alike xs ys at next a b le lt to small less e f same =
    word_decides xs ys at a b le lt small less e f
    ∙ by (nat_cmp a b) (slice_cmp nat_cmp (drop 8 (drop at xs)) (drop 8 (drop at ys))) (ranks a b)
    ∙ (λ i. slice_cmp nat_cmp (further xs i) (further ys i))
  where
    by : (r o : Ordering) → MatchOrdering r (a < b) (a ≡ b) (b < a) → ordering_then r o ≡ o
    by Less o h = let l : a < b = h in absurd (omega arith)
    by Equal o h = refl
    by Greater o h = let l : b < a = h in absurd (omega arith)

    further : (l : List ℕ) → drop 8 (drop at l) ≡ drop next l
    further l = drop-drop 8 at l ∙ ap (λ k. drop k l) (sym to)
