-- Lists of nibbles: two for each byte.
use Rattle.std.proofs.Common.{◌≡◌, ℕ, suc, zero, ◌+◌, ◌-◌, ◌*◌, ◌/◌, ◌%◌, ◌≤◌, ◌<◌, List, [], ◌∷◌, ◌++◌, length, take, drop, replicate}
use Rattle.std.proofs.Common.{refl, ap, arith, append_assoc, length-take}
use Rattle.std.specs.Prelude.{slice_index, slice_set}
use Rattle.std.proofs.lemmas.List.{take_more, take_at, drop_at}
use Rattle.std.proofs.Math.Seq.{set-append_seam}
use Rattle.nib_path.specs.Paths.{nibbles, packed}

pub nibbles-append : (a b : List ℕ) → nibbles (a ++ b) ≡ nibbles a ++ nibbles b
nibbles-append [] b = refl
nibbles-append (x ∷ a) b = ap (λ (r : List ℕ). x / 16 ∷ x % 16 ∷ r) (nibbles-append a b)

double-suc : (k : ℕ) → 2 * suc k ≡ suc (suc (2 * k))
double-suc k = omega arith

pub nibbles-take : (bs : List ℕ) (k : ℕ) → nibbles (take k bs) ≡ take (2 * k) (nibbles bs)
nibbles-take bs zero = refl
nibbles-take [] (suc k) = rw (double-suc k)
nibbles-take (b ∷ bs) (suc k) = rw (double-suc k) (ap (λ (r : List ℕ). b / 16 ∷ b % 16 ∷ r) (nibbles-take bs k))

pub nibbles-replicate : (k : ℕ) → nibbles (replicate k 0) ≡ replicate (2 * k) 0
nibbles-replicate zero = refl
nibbles-replicate (suc k) = rw (double-suc k) (ap (λ (r : List ℕ). 0 ∷ 0 ∷ r) (nibbles-replicate k))

pub nibbles-high : (bs : List ℕ) (k : ℕ) → slice_index (nibbles bs) (2 * k) ≡ slice_index bs k / 16
nibbles-high [] k = refl
nibbles-high (b ∷ bs) zero = refl
nibbles-high (b ∷ bs) (suc k) = rw (double-suc k) (nibbles-high bs k)

pub nibbles-low : (bs : List ℕ) (k : ℕ) → slice_index (nibbles bs) (suc (2 * k)) ≡ slice_index bs k % 16
nibbles-low [] k = refl
nibbles-low (b ∷ bs) zero = refl
nibbles-low (b ∷ bs) (suc k) = rw (double-suc k) (nibbles-low bs k)

pub nibbles-set_high : (bs : List ℕ) (k n : ℕ)
    → nibbles (slice_set bs k (n * 16 + slice_index bs k % 16)) ≡ slice_set (nibbles bs) (2 * k) n
nibbles-set_high [] k n = refl
nibbles-set_high (b ∷ bs) zero n =
    let high : (n * 16 + b % 16) / 16 ≡ n = omega arith in
    let low : (n * 16 + b % 16) % 16 ≡ b % 16 = omega arith in
    λ i. high i ∷ low i ∷ nibbles bs
nibbles-set_high (b ∷ bs) (suc k) n = rw (double-suc k) (ap (λ (r : List ℕ). b / 16 ∷ b % 16 ∷ r) (nibbles-set_high bs k n))

pub nibbles-set_low : (bs : List ℕ) (k n : ℕ) → n < 16
    → nibbles (slice_set bs k (slice_index bs k / 16 * 16 + n)) ≡ slice_set (nibbles bs) (suc (2 * k)) n
nibbles-set_low [] k n h = refl
nibbles-set_low (b ∷ bs) zero n h =
    let high : (b / 16 * 16 + n) / 16 ≡ b / 16 = omega arith in
    let low : (b / 16 * 16 + n) % 16 ≡ n = omega arith in
    λ i. high i ∷ low i ∷ nibbles bs
nibbles-set_low (b ∷ bs) (suc k) n h = rw (double-suc k) (ap (λ (r : List ℕ). b / 16 ∷ b % 16 ∷ r) (nibbles-set_low bs k n h))

-- n nibbles of a list, and then zeros up to 64, become one nibble more
pub head-more : (ns : List ℕ) (i : ℕ) → i < length ns → i < 64
    → slice_set (take i ns ++ replicate (64 - i) 0) i (slice_index ns i) ≡ take (i + 1) ns ++ replicate (64 - (i + 1)) 0
head-more ns i h below =
    let at : length (take i ns) ≡ i = omega (arith, length-take i ns) in
    let zeros : 64 - i ≡ suc (64 - (i + 1)) = omega arith in
    let seam : slice_set (take i ns ++ 0 ∷ replicate (64 - (i + 1)) 0) (length (take i ns))
    (slice_index ns i) ≡ take i ns ++ slice_index ns i ∷ replicate (64 - (i + 1)) 0 = set-append_seam (take i ns) 0 _ _ in
    rw (zeros, take_more ns i 0 h, append_assoc) (rw at at seam)

-- a list of nibbles that is some of a list's, and then zeros
pub take-head : (ns : List ℕ) (d : ℕ) → d ≤ length ns → take d (take d ns ++ replicate (64 - d) 0) ≡ take d ns
take-head ns d h = take_at _ _ d (omega (arith, length-take d ns))

pub drop-head : (ns : List ℕ) (d : ℕ) → d ≤ length ns → drop d (take d ns ++ replicate (64 - d) 0) ≡ replicate (64 - d) 0
drop-head ns d h = drop_at _ _ d (omega (arith, length-take d ns))

pub length-packed : (k : ℕ) (ns : List ℕ) → length ns ≡ 2 * k → length (packed ns) ≡ k
length-packed k [] e = omega arith
length-packed k (n ∷ []) e = absurd (omega arith)
length-packed zero (n ∷ m ∷ ns) e = absurd (omega arith)
length-packed (suc k) (n ∷ m ∷ ns) e = ap suc (length-packed k ns (omega arith))
