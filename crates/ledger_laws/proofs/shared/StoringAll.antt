-- No form of a list has the zero hash where none is found that has. For proofs of other crates.
use Rattle.std.proofs.Common.{◌≡◌, ⊎_elim}
use Rattle.std.proofs.Common.{Bool, true, false, not}
use Rattle.std.proofs.Common.{if◌then◌else◌, List, [], ◌∷◌, IsTrue}
use Rattle.std.proofs.Common.{None, Some, Contains}
use Rattle.std.proofs.Common.{refl, ap, subst}
use Rattle.std.specs.List.{find}
use Rattle.std.proofs.lemmas.List.Elements.{Contains-append_cases}
use Rattle.ledger_spec.specs.Bytes.{Bytes, Half, is_zero, is_nonzero}
use Rattle.tree_laws.proofs.shared.Joins.{in_one}
use Rattle.ledger_laws.proofs.shared.SoundForms.{in_nothing}

-- no form of these has the zero hash
pub none_zero : (half : Half) (forms : List Bytes) → find (λ form. is_zero (half form)) forms ≡ None → (form : Bytes) → Contains forms form
    → IsTrue (is_nonzero (half form))
none_zero half [] none form c = absurd (in_nothing c)
none_zero half (x ∷ forms) none form c = by (is_zero (half x)) refl none (λ e there. none_zero half forms e form there)
  where
    by : (t : Bool) → is_zero (half x) ≡ t → (if t then Some x else find (λ f. is_zero (half f)) forms) ≡ None
        → (find (λ f. is_zero (half f)) forms ≡ None → Contains forms form → IsTrue (is_nonzero (half form)))
        → IsTrue (is_nonzero (half form))
    by true z e rest = cc
    by false z e rest = ⊎_elim (λ same. subst (λ (f : Bytes). IsTrue (is_nonzero (half f))) (in_one x form same) (ap not z))
        (λ later. rest e later) (Contains-append_cases (x ∷ []) forms form c)
