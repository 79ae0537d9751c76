-- The numbers of hashes rise as the hashes do, so fewer and fewer come after.
use Rattle.std.proofs.Common.{◌≡◌, ℕ, suc, ◌+◌, ◌*◌, ◌<◌, arith, true, false, IsTrue, List, [], ◌∷◌, ◌∙◌, length, Option, None, Some, refl}
use Rattle.std.proofs.Common.{sym, ap}
use Rattle.std.specs.Prelude.{slice_index, nat_lt}
use Rattle.std.specs.declared.cmp.Ordering.{Ordering}
use Rattle.std.specs.declared.cmp.Ordering.TheVariants.{Less, Equal, Greater}
use Rattle.std.specs.Ordering.{nat_cmp, is_gt, ordering_then, ordering_reverse}
use Rattle.std.specs.Cmp.{ranked}
use Rattle.std.specs.Cmp.Lexicographic.{slice_cmp, nat_list_cmp_total}
use borrow.Author.Tests.{ltb-true, lt-ltb}
use Rattle.std.proofs.lemmas.Bool.{and_parts, and_from, false≢true}
use Rattle.ledger_spec.specs.Bytes.{Bytes, Hash, are_bytes, zero_hash}
use Rattle.ledger_spec.specs.Maps.{hash_cmp}
use Rattle.node_backend.specs.Order.{IsAfter}
use Rattle.core_machine.specs.Dumping.{Follows, IsHashOrNone, number_from, left_after}

pub bytes_from : (bs : List ℕ) → ((k : ℕ) → k < length bs → slice_index bs k < 256) → IsTrue (are_bytes bs)
bytes_from [] h = refl
bytes_from (b ∷ bs) h =
    let small : b < 256 = h 0 (omega arith) in
    and_from _ _ (lt-ltb b 256 small) (bytes_from bs (λ k l. h (suc k) (omega arith)))

-- a lesser front gives a lesser number, whatever follows
less_front : (n m : ℕ) (xs ys : Bytes) → length xs ≡ length ys → IsTrue (are_bytes xs) → n < m → number_from n xs < number_from m ys
unfolding number_from
less_front n m [] [] same bytes less = less
less_front n m [] (y ∷ ys) same bytes less = absurd (omega (arith, same))
less_front n m (x ∷ xs) [] same bytes less = absurd (omega (arith, same))
less_front n m (x ∷ xs) (y ∷ ys) same bytes less =
    let both = and_parts (nat_lt x 256) (are_bytes xs) bytes in
    let small : x < 256 = ltb-true x 256 both.0 in
    less_front (n * 256 + x) (m * 256 + y) xs ys (omega (arith, same)) both.1 (omega (arith, less, small))

-- the first bytes decide, or what follows them does
by_first : (n x y : ℕ) (xs ys : Bytes) → length xs ≡ length ys → IsTrue (are_bytes xs) → x < 256 → (o : Ordering) → nat_cmp x y ≡ o
    → (slice_cmp nat_cmp xs ys ≡ Less → number_from (n * 256 + x) xs < number_from (n * 256 + x) ys)
    → ordering_then (nat_cmp x y) (slice_cmp nat_cmp xs ys) ≡ Less → number_from (n * 256 + x) xs < number_from (n * 256 + y) ys
by_first n x y xs ys same bytes small Less is rest less =
    let lt : x < y = ranked x y Less (sym is) in
    less_front (n * 256 + x) (n * 256 + y) xs ys same bytes (omega (arith, lt))
by_first n x y xs ys same bytes small Equal is rest less =
    let eq : x ≡ y = ranked x y Equal (sym is) in
    omega (
      arith,
      rest (ap (λ (o : Ordering). ordering_then o (slice_cmp nat_cmp xs ys)) (sym is) ∙ less),
      ap (λ (k : ℕ). number_from (n * 256 + k) ys) eq,
    )
by_first n x y xs ys same bytes small Greater is rest less =
    absurd (greater (ap (λ (o : Ordering). ordering_then o (slice_cmp nat_cmp xs ys)) (sym is) ∙ less))
  where
    greater : Greater ≡ Less → ⊥
    greater e = cc

-- the numbers rise as the bytes do
rising : (n : ℕ) (xs ys : Bytes) → length xs ≡ length ys → IsTrue (are_bytes xs) → slice_cmp nat_cmp xs ys ≡ Less
    → number_from n xs < number_from n ys
unfolding number_from
rising n [] [] same bytes less = cc
rising n [] (y ∷ ys) same bytes less = absurd (omega (arith, same))
rising n (x ∷ xs) [] same bytes less = absurd (omega (arith, same))
rising n (x ∷ xs) (y ∷ ys) same bytes less =
    let both = and_parts (nat_lt x 256) (are_bytes xs) bytes in
    by_first n x y xs ys (omega (arith, same)) both.1 (ltb-true x 256 both.0) (nat_cmp x y) refl
    (λ rest. rising (n * 256 + x) xs ys (omega (arith, same)) both.1 rest) less

-- and there is a greater number than those of all hashes
below_top : (h : Hash) → length h ≡ 32 → IsTrue (are_bytes h) → number_from 0 h < number_from 1 zero_hash
below_top h size bytes = less_front 0 1 h zero_hash size bytes (omega arith)

pub left_falls : (after : Option Hash) (h : Hash) → IsHashOrNone after → Follows after h → left_after (Some h) < left_after after
left_falls None h is follows = omega arith
left_falls (Some last) h is follows =
    omega (arith, rising 0 last h (is.0 ∙ sym follows.size) is.1 follows.later, below_top h follows.size follows.bytes)

-- a hash that is greater comes after
pub later_if : (last h : Hash) (o : Ordering) → o ≡ hash_cmp h last → is_gt o ≡ true → hash_cmp last h ≡ Less
later_if last h Less is gt = absurd (false≢true gt)
later_if last h Equal is gt = absurd (false≢true gt)
later_if last h Greater is gt = nat_list_cmp_total.antisymm last h ∙ ap ordering_reverse (sym is)

pub not_later : (last h : Hash) (o : Ordering) → o ≡ hash_cmp h last → is_gt o ≡ false → hash_cmp last h ≡ Less → ⊥
not_later last h o is gt less =
    false≢true (sym gt ∙ ap is_gt (is ∙ nat_list_cmp_total.antisymm h last ∙ ap ordering_reverse less))

-- what comes after a later hash comes after
pub follows_then : (after : Option Hash) (h next : Hash) → Follows after h → Follows (Some h) next → Follows after next
follows_then after h next first second = record { later = at after first.later; size = second.size; bytes = second.bytes }
  where
    at : (o : Option Hash) → IsAfter o h → IsAfter o next
    at None is = tt
    at (Some last) is = nat_list_cmp_total.trans last h next is second.later
