-- Keys on whose way a place lies. For proofs of other crates.
use Rattle.std.proofs.Common.{◌≡◌, ◌≢◌, ℕ, ◌<◌, ◌≤◌, ◌==◌, ◌&&◌, Bool, true, false, List, [], ◌∷◌, ◌++◌, length, drop, refl, sym, ap, ◌∙◌}
use Rattle.std.proofs.Common.{arith, IsTrue, nat_eq, slice_index, length-drop}
use Rattle.std.specs.List.{starts_with}
use Rattle.std.proofs.lemmas.Bool.{and_parts, eq-eqb, eqb-true, eqb-false}
use Rattle.nib_path.specs.Paths.{nibbles, nibble_of, lies_under, packed, packed-nibbles, length-nibbles}
use Rattle.ledger_spec.specs.Bytes.{Hash}
use Rattle.cow_map.proofs.Orders.{under_splits}

more_starts : (ns path : List ℕ) → starts_with nat_eq ns path ≡ true → length path < length ns
    → starts_with nat_eq ns (path ++ slice_index ns (length path) ∷ []) ≡ true
more_starts [] path h low = absurd (omega arith)
more_starts (n ∷ ns) [] h low = ap (λ t. t && true) (eq-eqb n n refl)
more_starts (n ∷ ns) (p ∷ path) h low =
    let both = and_parts (nat_eq p n) (starts_with nat_eq ns path) h in
    let below : length path < length ns = omega arith in
    ap (λ t. t && starts_with nat_eq ns (path ++ slice_index ns (length path) ∷ [])) both.0 ∙ more_starts ns path both.1 below

-- the branch that the key's nibble chooses lies on its way
pub under_branch : (path : List ℕ) (key : Hash) (b n : ℕ) → length key ≡ 32 → IsTrue (lies_under path key) → length path < 64
    → n ≡ length path → b ≡ nibble_of key n → IsTrue (lies_under (path ++ b ∷ []) key)
under_branch path key b n size under low at is =
    let long : length path < length (nibbles key) = omega (arith, length-nibbles key) in
    ap (λ m. lies_under (path ++ m ∷ []) key) (is ∙ ap (nibble_of key) at) ∙ more_starts (nibbles key) path under long

none_left : (xs : List ℕ) → length xs ≡ 0 → xs ≡ []
none_left [] h = refl
none_left (x ∷ xs) h = absurd (omega arith)

-- two keys below one place at the bottom are one
one_below : (path : List ℕ) (k : Hash) → length k ≡ 32 → IsTrue (lies_under path k) → 64 ≤ length path → nibbles k ≡ path
one_below path k size under deep =
    let splits = under_splits path k under in
    let rest : length (drop (length path) (nibbles k)) ≡ 0 = omega (arith, length-drop (length path) (nibbles k), length-nibbles k) in
    splits ∙ ap (λ r. path ++ r) (none_left _ rest) ∙ append_none path
  where
    append_none : (xs : List ℕ) → xs ++ [] ≡ xs
    append_none [] = refl
    append_none (x ∷ xs) = ap (λ ys. x ∷ ys) (append_none xs)

pub differ_above : (path : List ℕ) (k l : Hash) → length k ≡ 32 → length l ≡ 32 → IsTrue (lies_under path k) → IsTrue (lies_under path l)
    → k ≢ l → length path ≤ 64 → length path < 64
differ_above path k l size width under over differ short = by (length path == 64) refl
  where
    same : length path ≡ 64 → k ≡ l
    same deep =
        let far : 64 ≤ length path = omega arith in
        sym (packed-nibbles k) ∙ ap packed (one_below path k size under far ∙ sym (one_below path l width over far)) ∙ packed-nibbles l

    by : (t : Bool) → (length path == 64) ≡ t → length path < 64
    by true is = absurd (differ (same (eqb-true (length path) 64 is)))
    by false is = let other = eqb-false (length path) 64 is in omega (arith, other)
