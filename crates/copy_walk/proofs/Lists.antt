-- The grey and the black hashes of a walk, as one hash is shaded or taken.
use Rattle.std.proofs.Common.{◌≡◌, ◌⊎◌, inl, inr, ⊎_elim, ◌∷◌, [], List, Contains, arith, ◌<◌}
use Rattle.std.proofs.lemmas.List.Sorted.{Contains-permutation, IsPermutation-sym}
use Rattle.std.proofs.lemmas.List.Elements.{Contains-append_left, Contains-append_right, Contains-append_cases, Contains-push}
use Rattle.ledger_spec.specs.Bytes.{Hash}
use Rattle.ledger_spec.proofs.shared.Storing.{in_one}
use Rattle.copy_walk.specs.Walks.{Walk, shaded}
use Rattle.copy_walk.specs.Strides.{Leaves}

pub in_none : (h : Hash) → Contains {X = Hash} [] h → ⊥
in_none h is = let lt : is.0 < 0 = is.1 in absurd (omega (arith, lt))

pub grey_shaded : (w : Walk) (h : Hash) → Contains w.grey h → Contains (shaded w) h
grey_shaded w h c = Contains-append_left w.grey w.black h c

pub black_shaded : (w : Walk) (h : Hash) → Contains w.black h → Contains (shaded w) h
black_shaded w h c = Contains-append_right w.grey w.black h c

pub shaded_cases : (w : Walk) (h : Hash) → Contains (shaded w) h → Contains w.grey h ⊎ Contains w.black h
shaded_cases w h c = Contains-append_cases w.grey w.black h c

-- the first of a list, and the others
pub in_first : (h : Hash) (hs : List Hash) → Contains (h ∷ hs) h
in_first h hs = Contains-append_left (h ∷ []) hs h (Contains-push [] h)

pub in_later : (h q : Hash) (hs : List Hash) → Contains hs q → Contains (h ∷ hs) q
in_later h q hs c = Contains-append_right (h ∷ []) hs q c

pub first_or_later : (h q : Hash) (hs : List Hash) → Contains (h ∷ hs) q → (q ≡ h) ⊎ Contains hs q
first_or_later h q hs c = ⊎_elim (λ one. inl (in_one h q one)) (λ more. inr more) (Contains-append_cases (h ∷ []) hs q c)

module _ (w : Walk) (h : Hash) (w' : Walk) (leaves : Leaves w h w') where
  pub grey_was : Contains w.grey h
  grey_was = Contains-permutation (h ∷ w'.grey) w.grey h (IsPermutation-sym w.grey (h ∷ w'.grey) leaves) (in_first h w'.grey)

  pub was_grey : (q : Hash) → Contains w'.grey q → Contains w.grey q
  was_grey q c = Contains-permutation (h ∷ w'.grey) w.grey q (IsPermutation-sym w.grey (h ∷ w'.grey) leaves) (in_later h q w'.grey c)

  pub still_grey : (q : Hash) → Contains w.grey q → (q ≡ h) ⊎ Contains w'.grey q
  still_grey q c = first_or_later h q w'.grey (Contains-permutation w.grey (h ∷ w'.grey) q leaves c)
