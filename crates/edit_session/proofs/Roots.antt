-- The root of a map that isn't empty is the hash of one of its forms.
use Rattle.std.proofs.Common.{◌≡◌, ◌≢◌, ℕ, suc, Bool, true, false, cond, not, IsTrue, List, [], ◌∷◌, ◌++◌, Option, None, Some}
use Rattle.std.proofs.Common.{refl, sym, ap, ◌∙◌, subst}
use Rattle.std.specs.Option.{option_or, option_to_list}
use Rattle.std.proofs.lemmas.List.Folds.{find-append}
use Rattle.ledger_spec.specs.declared.Kind.{Kind}
use Rattle.ledger_spec.specs.Bytes.{Bytes, Half, Items, is_zero, is_nonzero}
use Rattle.ledger_spec.specs.Forms.{hash_or_zero}
use Rattle.ledger_spec.specs.Tree.{Entry, part, form_of_part, form_at, forms_of_part, forms_of, root_of}
use Rattle.cow_map.specs.Sealing.{first_zero}

-- the last form of a part is its own
last_form : (half : Half) (kind : Kind) (all : List Entry) (left : ℕ) (path : List ℕ) (es : List Entry)
    → (front : List Bytes)
    × (forms_of_part half kind all (suc left) path es ≡ front ++ option_to_list (form_of_part half kind all (suc left) path es))
unfolding forms_of_part form_of_part
last_form half kind all left path [] = ([], refl)
last_form half kind all left path (e ∷ others) = (_, refl)

some_form : (half : Half) (kind : Kind) (all : List Entry) (left : ℕ) (path : List ℕ) (e : Entry) (others : List Entry)
    → (form : Bytes) × (form_of_part half kind all (suc left) path (e ∷ others) ≡ Some form)
unfolding form_of_part
some_form half kind all left path e others = (_, refl)

-- the last form hasn't the zero hash where none has
last_nonzero : (half : Half) (front : List Bytes) (form : Bytes) → first_zero half (front ++ form ∷ []) ≡ None
    → IsTrue (is_nonzero (half form))
last_nonzero half front form none =
    by (is_zero (half form)) (first_zero half front)
    (sym (find-append (λ f. is_zero (half f)) front (form ∷ [])) ∙ none)
  where
    by : (t : Bool) (o : Option Bytes) → option_or o (cond t (Some form) None) ≡ None → IsTrue (not t)
    by false o e = refl
    by true None e = cc
    by true (Some f) e = cc

at_top : (half : Half) (kind : Kind) (items : Items) (e : Entry) (others : List Entry) → part items [] ≡ e ∷ others
    → first_zero half (forms_of half kind items) ≡ None → (form : Bytes) × (form_at half kind items [] ≡ Some form)
    × IsTrue (is_nonzero (half form))
unfolding form_at
at_top half kind items e others is none =
    let last = last_form half kind items 63 [] (e ∷ others) in
    let form = some_form half kind items 63 [] e others in
    let joined : forms_of half kind items ≡ last.0 ++ form.0 ∷ [] =
    ap (forms_of_part half kind items 64 []) is ∙ last.1 ∙ ap (λ o. last.0 ++ option_to_list o) form.1 in (
      form.0,
      ap (form_of_part half kind items 64 []) is ∙ form.1,
      last_nonzero half last.0 form.0 (sym (ap (first_zero half) joined) ∙ none),
    )

-- where none of its forms has the zero hash, the root isn't zero
pub nonzero_root : (half : Half) (kind : Kind) (items : Items) → items ≢ [] → first_zero half (forms_of half kind items) ≡ None
    → IsTrue (is_nonzero (root_of half kind items))
nonzero_root half kind [] some none = absurd (some refl)
nonzero_root half kind (e ∷ others) some none =
    let top = at_top half kind (e ∷ others) e (part others []) refl none in
    subst (λ o. IsTrue (is_nonzero (hash_or_zero half o))) (sym top.1) top.2
