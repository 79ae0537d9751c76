-- An element of a list that is one longer. For proofs of other crates.
use Rattle.std.proofs.Common.{◌≡◌, ◌⊎◌, inl, inr, ℕ, zero, suc, List, [], ◌∷◌, ◌++◌, length, Some}
use Rattle.std.proofs.Common.{refl, ap}
use Rattle.std.specs.List.{slice_get}

pub get_more : {A : Type 0} (xs : List A) (y x : A) (i : ℕ) → slice_get (xs ++ y ∷ []) i ≡ Some x → (slice_get xs i ≡ Some x)
    ⊎ ((i ≡ length xs) × (x ≡ y))
get_more [] y x zero e = inr (refl, cc)
get_more [] y x (suc i) e = cc
get_more (z ∷ xs) y x zero e = inl e
get_more (z ∷ xs) y x (suc i) e = elim (get_more xs y x i e) [ inl at ↦ inl at | inr at ↦ inr (ap suc at.0, at.1) ]
