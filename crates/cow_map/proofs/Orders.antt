-- Keys below different branches of one place are ordered as the branches are.
use Rattle.std.proofs.Common.{◌≡◌, ℕ, ◌/◌, ◌%◌, ◌<◌, List, [], ◌∷◌, ◌++◌, length, drop, sym, ap, ◌∙◌, arith, IsTrue, append_assoc}
use Rattle.std.specs.Ordering.{nat_cmp, ordering_then}
use Rattle.std.specs.declared.cmp.Ordering.TheVariants.{Less, Equal}
use Rattle.std.specs.Cmp.{nat_cmp_is}
use Rattle.std.specs.Cmp.Lexicographic.{slice_cmp}
use Rattle.ledger_spec.specs.Maps.{hash_cmp}
use Rattle.nib_path.specs.Paths.{nibbles, lies_under}
use Rattle.ledger_spec.proofs.shared.Readings.{starts_split}

-- the nibbles of the key, from the path on
pub under_splits : (path key : List ℕ) → IsTrue (lies_under path key) → nibbles key ≡ path ++ drop (length path) (nibbles key)
under_splits path key under = starts_split (nibbles key) path under

first_less : (x y : ℕ) (xs ys : List ℕ) → x < y → hash_cmp (x ∷ xs) (y ∷ ys) ≡ Less
first_less x y xs ys h = ap (λ o. ordering_then o (slice_cmp nat_cmp xs ys)) (sym (nat_cmp_is x y Less h))

first_same : (x y : ℕ) (xs ys : List ℕ) → x ≡ y → hash_cmp (x ∷ xs) (y ∷ ys) ≡ hash_cmp xs ys
first_same x y xs ys h = ap (λ o. ordering_then o (slice_cmp nat_cmp xs ys)) (sym (nat_cmp_is x y Equal h))

byte_from : (x y p q : ℕ) → x / 16 ≡ p → x % 16 ≡ q → y / 16 ≡ p → y % 16 ≡ q → x ≡ y
byte_from x y p q a b c d = omega arith

pub split_less : (k l path : List ℕ) (b c : ℕ) (r s : List ℕ) → nibbles k ≡ path ++ b ∷ r → nibbles l ≡ path ++ c ∷ s → b < c
    → hash_cmp k l ≡ Less
split_less [] l [] b c r s e f h = cc
split_less [] l (p ∷ path) b c r s e f h = cc
split_less (x ∷ k) [] [] b c r s e f h = cc
split_less (x ∷ k) [] (p ∷ path) b c r s e f h = cc
split_less (x ∷ k) (y ∷ l) [] b c r s e f h =
    let first : x / 16 ≡ b = cc in
    let second : y / 16 ≡ c = cc in
    let below : x < y = omega arith in
    first_less x y k l below
split_less (x ∷ k) (y ∷ l) (p ∷ []) b c r s e f h =
    let first : x / 16 ≡ p = cc in
    let second : y / 16 ≡ p = cc in
    let third : x % 16 ≡ b = cc in
    let fourth : y % 16 ≡ c = cc in
    let below : x < y = omega arith in
    first_less x y k l below
split_less (x ∷ k) (y ∷ l) (p ∷ q ∷ path) b c r s e f h =
    let first : x / 16 ≡ p = cc in
    let second : y / 16 ≡ p = cc in
    let third : x % 16 ≡ q = cc in
    let fourth : y % 16 ≡ q = cc in
    let rest : nibbles k ≡ path ++ b ∷ r = cc in
    let others : nibbles l ≡ path ++ c ∷ s = cc in
    first_same x y k l (byte_from x y p q first third second fourth) ∙ split_less k l path b c r s rest others h

-- a key below a lower branch comes before
pub branch_less : (path : List ℕ) (b c : ℕ) (k l : List ℕ) → IsTrue (lies_under (path ++ b ∷ []) k)
    → IsTrue (lies_under (path ++ c ∷ []) l) → b < c → hash_cmp k l ≡ Less
branch_less path b c k l under over h =
    let e : nibbles k ≡ path ++ b ∷ drop (length (path ++ b ∷ [])) (nibbles k) = under_splits (path ++ b ∷ []) k under
    ∙ append_assoc path (b ∷ []) _ in
    let f : nibbles l ≡ path ++ c ∷ drop (length (path ++ c ∷ [])) (nibbles l) = under_splits (path ++ c ∷ []) l over
    ∙ append_assoc path (c ∷ []) _ in
    split_less k l path b c _ _ e f h
