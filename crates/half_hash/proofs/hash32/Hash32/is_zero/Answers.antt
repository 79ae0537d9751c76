use Rattle.std.proofs.Common.{rules, ◌≡◌, ◌∙◌, subst, refl, List, ℕ, [], ◌∷◌, length, nat_eq, ◌==◌, ap}
use Rattle.std.specs.Prelude.{◌&&◌, replicate}
use Rattle.std.specs.Cmp.Lexicographic.{pointwise}
use Rattle.half_hash.specs.Zero.{is_zero as all_zero}
use Rattle.half_hash.proofs.hash32.Hash32.is_zero.Goals as goal

-- bytes are as many zeros exactly where each of them is zero
as_zeros : (h : List ℕ) → pointwise nat_eq h (replicate (length h) 0) ≡ all_zero h
as_zeros [] = refl
as_zeros (b ∷ h) = ap (λ r. (b == 0) && r) (as_zeros h)

pub returns : goal.returns
returns c =
    let bytes = c.self.inside.bytes in
    let long : length bytes ≡ 32 = search rules in
    rw (← c.self.view_is) (c.eq.ensures ∙ subst (λ n. pointwise nat_eq bytes (replicate n 0) ≡ all_zero bytes) long (as_zeros bytes))
