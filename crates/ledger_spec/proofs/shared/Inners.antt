-- Which bytes are an inner node's form. For proofs of other crates.
use Rattle.std.proofs.Common.{◌≡◌, ◌==◌, ◌&&◌, Bool, true, false, length, drop, nat_eq, Some, None, refl}
use Rattle.std.specs.List.{starts_with, list_any}
use Rattle.std.proofs.lemmas.Bool.{cond-true, cond-false, ne_eqb, eq-eqb}
use Rattle.half_hash.specs.Zero.{is_nonzero}
use Rattle.ledger_spec.specs.Bytes.{Bytes, hashes_of}
use Rattle.ledger_spec.specs.Forms.{inner_of, inner_prefix}

three_first : (a b c : Bool) → a ≡ false → (a && b && c) ≡ false
three_first false b c e = refl
three_first true b c e = cc

three_second : (a b c : Bool) → b ≡ false → (a && b && c) ≡ false
three_second false b c e = refl
three_second true false c e = refl
three_second true true c e = cc

three_third : (a b c : Bool) → c ≡ false → (a && b && c) ≡ false
three_third false b c e = refl
three_third true false c e = refl
three_third true true c e = e

three_true : (a b c : Bool) → a ≡ true → b ≡ true → c ≡ true → (a && b && c) ≡ true
three_true a b c p q r = rw (p, q, r) refl

-- another length is no inner node
pub not_inner_length : (b : Bytes) → (length b ≡ 516 → ⊥) → inner_of b ≡ None
unfolding inner_of
not_inner_length b other = cond-false _ _ _
    (three_second (starts_with nat_eq b inner_prefix) (length b == 516) (list_any is_nonzero (hashes_of 16 (drop 4 b)))
    (ne_eqb (length b) 516 other))

-- nor is another prefix
pub not_inner_prefix : (b : Bytes) → starts_with nat_eq b inner_prefix ≡ false → inner_of b ≡ None
unfolding inner_of
not_inner_prefix b other = cond-false _ _ _
    (three_first (starts_with nat_eq b inner_prefix) (length b == 516) (list_any is_nonzero (hashes_of 16 (drop 4 b))) other)

pub not_inner_empty : (b : Bytes) → list_any is_nonzero (hashes_of 16 (drop 4 b)) ≡ false → inner_of b ≡ None
unfolding inner_of
not_inner_empty b other = cond-false _ _ _
    (three_third (starts_with nat_eq b inner_prefix) (length b == 516) (list_any is_nonzero (hashes_of 16 (drop 4 b))) other)

pub inner_of_is : (b : Bytes) → starts_with nat_eq b inner_prefix ≡ true → length b ≡ 516
    → list_any is_nonzero (hashes_of 16 (drop 4 b)) ≡ true → inner_of b ≡ Some (hashes_of 16 (drop 4 b))
unfolding inner_of
inner_of_is b prefix size some =
    cond-true _ _ _ (three_true (starts_with nat_eq b inner_prefix) (length b == 516)
    (list_any is_nonzero (hashes_of 16 (drop 4 b))) prefix (eq-eqb (length b) 516 size) some)
