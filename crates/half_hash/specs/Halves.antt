-- Both halves give 32 bytes.
use Rattle.std.proofs.Common.{◌<◌, ◌%◌, ◌/◌, ◌^◌, ℕ, zero, suc, nat_lt, List, [], ◌∷◌, ◌++◌, take, replicate, sum, slice_index, IsTrue}
use Rattle.std.proofs.Common.{refl, arith, length-take}
use Rattle.std.proofs.lemmas.Bool.{lt-ltb, and_parts, and_from}
use Rattle.std.specs.Int.{w64, to_be_bytes, bytes_high_first, byte_at}
use Rattle.sha2.proofs.Facts512.{length-sha512}
use Rattle.sha2.specs.Sha512.{sha512, digest_bytes, final_hash, initial_hash_512}
use Rattle.half_hash.specs.Half.{are_bytes, IsHalf, sha512_half, byte_sum_half}

join_bytes : (xs ys : List ℕ) → IsTrue (are_bytes xs) → IsTrue (are_bytes ys) → IsTrue (are_bytes (xs ++ ys))
join_bytes [] ys all more = more
join_bytes (x ∷ xs) ys all more =
    let both = and_parts (nat_lt x 256) (are_bytes xs) all in
    and_from (nat_lt x 256) (are_bytes (xs ++ ys)) both.0 (join_bytes xs ys both.1 more)

take_bytes : (n : ℕ) (xs : List ℕ) → IsTrue (are_bytes xs) → IsTrue (are_bytes (take n xs))
take_bytes zero xs all = refl
take_bytes (suc n) [] all = refl
take_bytes (suc n) (x ∷ xs) all =
    let both = and_parts (nat_lt x 256) (are_bytes xs) all in
    and_from (nat_lt x 256) (are_bytes (take n xs)) both.0 (take_bytes n xs both.1)

byte_small : (k n : ℕ) → byte_at k n < 256
byte_small zero n = omega arith
byte_small (suc k) n = let quotient : ℕ = n / 256 ^ suc k in mod_small quotient
  where
    mod_small : (m : ℕ) → m % 256 < 256
    mod_small m = omega arith

high_first_bytes : (count n : ℕ) → IsTrue (are_bytes (bytes_high_first count n))
high_first_bytes zero n = refl
high_first_bytes (suc count) n =
    and_from (nat_lt (byte_at count n) 256) (are_bytes (bytes_high_first count n)) (lt-ltb (byte_at count n) 256 (byte_small count n))
    (high_first_bytes count n)

digest_are_bytes : (h : List ℕ) (n : ℕ) → IsTrue (are_bytes (digest_bytes h n))
unfolding digest_bytes
digest_are_bytes h zero = refl
digest_are_bytes h (suc n) =
    join_bytes (digest_bytes h n) (to_be_bytes w64 (slice_index h n)) (digest_are_bytes h n) (high_first_bytes 8 (slice_index h n))

pub sha512_is : IsHalf sha512_half
unfolding sha512
sha512_is = record {
  size = λ bytes. omega (arith, length-take 32 (sha512 bytes), length-sha512 bytes);
  bytes = λ bytes. take_bytes 32 (sha512 bytes) (digest_are_bytes (final_hash initial_hash_512 bytes) 8);
}

pub byte_sum_is : IsHalf byte_sum_half
byte_sum_is = record {
  size = λ bytes. refl;
  bytes = λ bytes. and_from (nat_lt (sum bytes % 256) 256) (are_bytes (replicate 31 0)) (lt-ltb (sum bytes % 256) 256 (omega arith)) refl;
}
