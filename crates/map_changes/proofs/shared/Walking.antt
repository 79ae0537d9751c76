-- A range of numbers that is one longer. For proofs of other crates.
use Rattle.std.specs.Prelude.{◌≡◌, ℕ, zero, suc, ◌+◌}
use Rattle.std.specs.Prelude.{List, [], ◌∷◌, ◌++◌}
use Rattle.std.proofs.Common.{ap, ◌∙◌, arith}
use Rattle.std.specs.List.{range_with_len}

-- one number more
pub range_more : (a n : ℕ) → range_with_len a n ++ (a + n) ∷ [] ≡ range_with_len a (n + 1)
range_more a zero = let e : a + 0 ≡ a = omega arith in ap (λ (x : ℕ). x ∷ []) e
range_more a (suc n) =
    let e : a + suc n ≡ a + 1 + n = omega arith in
    let f : suc (n + 1) ≡ suc n + 1 = omega arith in
    ap (λ (x : List ℕ). a ∷ x) (ap (λ (x : ℕ). range_with_len (a + 1) n ++ x ∷ []) e ∙ range_more (a + 1) n) ∙ ap (range_with_len a) f
