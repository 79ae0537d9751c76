-- Forms that are stored one after the other, none of which clashes, are all stored.
use Rattle.std.proofs.Common.{◌≡◌, ◌⊎◌, inl, inr, ⊎_elim, ◌++◌}
use Rattle.std.proofs.Common.{Bool, true, false}
use Rattle.std.proofs.Common.{if◌then◌else◌, List, [], ◌∷◌, is_some}
use Rattle.std.proofs.Common.{Option, None, Some, Contains}
use Rattle.std.proofs.Common.{refl, sym, ap, ◌∙◌, subst}
use Rattle.std.specs.Option.{option_or}
use Rattle.std.specs.List.{filter_map}
use Rattle.std.specs.Cmp.Lexicographic.{same_text}
use Rattle.std.specs.FinMap as finite
use Rattle.std.specs.FinSet as set
use Rattle.std.specs.Ordering.{is_eq}
use Rattle.std.proofs.lemmas.Cmp.{nat_list_cmp_total, tied_itself}
use Rattle.std.proofs.lemmas.List.Elements.{Contains-append_cases, filter_map-append}
use Rattle.ledger_spec.specs.declared.Kind.TheVariants as kinds
use Rattle.ledger_spec.specs.declared.Place.TheVariants.{Header}
use Rattle.ledger_spec.specs.Bytes.{Bytes, Half, Lookup, same_bytes}
use Rattle.ledger_spec.specs.Header.{tx_root_of, state_root_of}
use Rattle.ledger_spec.specs.Forms.{header_prefix, header_of}
use Rattle.ledger_spec.specs.Findings.{Whole, header_sight, header_or_foreign, maps_of, walk_map, walk_ledger}
use Rattle.ledger_spec.specs.Offers.{Clash}
use Rattle.ledger_spec.proofs.shared.Growth.{met, found}
use Rattle.tree_laws.specs.Walks.{found_below}
use Rattle.tree_laws.proofs.shared.Joins.{in_one}
use Rattle.ledger_machine.specs.State.{State, form_in, with_form, with_forms}
use Rattle.ledger_machine.specs.Closing.{clash_under, first_clash}
use Rattle.ledger_laws.proofs.shared.SoundForms.{with_forms_grow, in_nothing, get_more}

-- without a clash
no_clash : (h form : Bytes) (o : Option Bytes) → clash_under h form o ≡ None → (o ≡ None) ⊎ (o ≡ Some form)
no_clash h form None none = inl refl
no_clash h form (Some old) none = by (same_bytes old form) (record { hash = h; old = old; new = form }) refl none
  where
    by : (t : Bool) (c : Clash) → same_bytes old form ≡ t → (if t then None else Some c) ≡ None → (Some old ≡ None) ⊎ (Some old ≡ Some form)
    by true c is e = inr (ap Some (same_text old form (sym is)))
    by false c is e = cc

both_none : {A : Type 0} (a b : Option A) → option_or a b ≡ None → (a ≡ None) × (b ≡ None)
both_none None b e = (refl, e)
both_none (Some x) b e = cc

-- a form is stored then
form_stored : (half : Half) (s : State) (form : Bytes) → (form_in s (half form) ≡ None) ⊎ (form_in s (half form) ≡ Some form)
    → form_in (with_form half s form) (half form) ≡ Some form
form_stored half s form free = at (form_in s (half form)) refl free
  where
    at : (o : Option Bytes) → form_in s (half form) ≡ o → (o ≡ None) ⊎ (o ≡ Some form)
        → form_in (if is_some o then s else record s
        { nodes = finite.insert s.nodes (half form) form; born = set.insert s.born (half form) }) (half form) ≡ Some form
    at (Some old) e fit = ⊎_elim (λ (no : Some old ≡ None). absurd (let x : Some old ≡ None = no in cc)) (λ same. e ∙ same) fit
    at None e fit = get_more s.nodes (half form) form (half form) true (ap is_eq (tied_itself nat_list_cmp_total (half form)))

-- where no form clashes, each is stored in the end
pub all_stored : (half : Half) (s : State) (forms : List Bytes) → first_clash half s forms ≡ None → (form : Bytes) → Contains forms form
    → form_in (with_forms half s forms) (half form) ≡ Some form
all_stored half s [] none form c = absurd (in_nothing c)
all_stored half s (x ∷ forms) none form c =
    let parts = both_none (clash_under (half x) x (form_in s (half x))) (first_clash half (with_form half s x) forms) none in
    let first : form_in (with_form half s x) (half x) ≡ Some x =
    form_stored half s x (no_clash (half x) x (form_in s (half x)) parts.0) in
    ⊎_elim
    (λ same. subst (λ (f : Bytes). form_in (with_forms half (with_form half s x) forms) (half f) ≡ Some f) (in_one x form same)
    (with_forms_grow half (with_form half s x) forms (half x) x first))
    (λ later. all_stored half (with_form half s x) forms parts.1 form later) (Contains-append_cases (x ∷ []) forms form c)

-- a ledger is whole where its header is stored and both maps are
pub whole_from : (half : Half) (nodes : Lookup) (t bytes : Bytes) → nodes t ≡ Some (header_prefix ++ bytes)
    → header_of (header_prefix ++ bytes) ≡ Some bytes
    → found_below half nodes kinds.State 64 None [] (state_root_of bytes) ≡ []
    → found_below half nodes kinds.Tx 64 None [] (tx_root_of bytes) ≡ [] → Whole half nodes t
unfolding walk_ledger walk_map found_below
whole_from half nodes t bytes stored is accounts txs =
    ap (λ o. filter_map found (met Header t None (header_sight o) ∷ maps_of half nodes (header_sight o))) stored
    ∙ ap (λ o. filter_map found (met Header t None (header_or_foreign o) ∷ maps_of half nodes (header_or_foreign o))) is
    ∙ filter_map-append found (walk_map half nodes kinds.State (state_root_of bytes)) (walk_map half nodes kinds.Tx (tx_root_of bytes))
    ∙ (λ i. accounts i ++ txs i)
