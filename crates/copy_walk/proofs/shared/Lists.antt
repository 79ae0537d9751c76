-- What is shaded once a hash was shaded. For proofs of other crates.
use Rattle.std.proofs.Common.{◌≡◌, ◌⊎◌, inl, inr, ⊎_elim, ◌∷◌, [], List, Contains, sym, subst}
use Rattle.std.proofs.lemmas.List.Elements.{Contains-append_left, Contains-append_cases, Contains-push}
use Rattle.ledger_spec.specs.Bytes.{Hash}
use Rattle.ledger_spec.proofs.shared.Storing.{in_one}
use Rattle.copy_walk.specs.Walks.{Walk, shaded, Shades}
use Rattle.copy_walk.proofs.Lists.{grey_shaded, black_shaded, shaded_cases}

-- what is shaded once more is shaded
module _ (w : Walk) (h : Hash) (w' : Walk) (s : Shades w h w') where
  pub shaded_stays : (q : Hash) → Contains (shaded w) q → Contains (shaded w') q
  shaded_stays q c =
      ⊎_elim
      (λ grey. grey_shaded w' q (⊎_elim
      (λ same. subst (λ (hs : List Hash). Contains hs q) (sym same.0) grey)
      (λ more. subst (λ (hs : List Hash). Contains hs q) (sym more) (Contains-append_left w.grey (h ∷ []) q grey)) s.grey))
      (λ black. black_shaded w' q (subst (λ (hs : List Hash). Contains hs q) (sym s.black) black))
      (shaded_cases w q c)

  pub is_shaded : Contains (shaded w') h
  is_shaded =
      ⊎_elim
      (λ same. black_shaded w' h (subst (λ (hs : List Hash). Contains hs h) (sym s.black) same.1))
      (λ more. grey_shaded w' h (subst (λ (hs : List Hash). Contains hs h) (sym more) (Contains-push w.grey h))) s.grey

  pub grey_from : (q : Hash) → Contains w'.grey q → Contains w.grey q ⊎ (q ≡ h)
  grey_from q c =
      ⊎_elim
      (λ same. inl (subst (λ (hs : List Hash). Contains hs q) same.0 c))
      (λ more. ⊎_elim (λ old. inl old) (λ one. inr (in_one h q one))
      (Contains-append_cases w.grey (h ∷ []) q (subst (λ (hs : List Hash). Contains hs q) more c))) s.grey

  pub shaded_from : (q : Hash) → Contains (shaded w') q → Contains (shaded w) q ⊎ (q ≡ h)
  shaded_from q c =
      ⊎_elim
      (λ grey. ⊎_elim (λ old. inl (grey_shaded w q old)) (λ one. inr one) (grey_from q grey))
      (λ black. inl (black_shaded w q (subst (λ (hs : List Hash). Contains hs q) s.black black)))
      (shaded_cases w' q c)
