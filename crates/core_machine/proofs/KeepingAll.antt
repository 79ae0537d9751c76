-- Forms that a close puts into the store, one after another.
use Rattle.std.proofs.Common.{◌≡◌, ◌⊎◌, ⊎_elim, ℕ, ◌+◌, ◌<◌, ◌++◌, List, [], ◌∷◌, length, map, drop, get_or, Contains}
use Rattle.std.proofs.Common.{Option, Ok, Err, refl, sym, ap, ◌∙◌, subst}
use Rattle.std.specs.Option.{option_or}
use Rattle.std.proofs.lemmas.List.{append_assoc, drop_more}
use Rattle.ledger_spec.specs.Bytes.{Bytes, Half}
use Rattle.ledger_spec.specs.Offers.{Clash}
use Rattle.ledger_machine.specs.Closing.{clash_under, first_clash}
use Rattle.ledger_machine.specs.State.{State, form_in, with_form, with_forms}
use Rattle.ledger_machine.specs.Steps.{IsAfter}
use Rattle.core_machine.proofs.shared.States.{after_on, form_after}
use Rattle.cow_map.specs.declared.seal.FormOf.{FormOf}
use Rattle.node_offer.specs.declared.fault.OfferFault.{OfferFault}
use Rattle.node_offer.specs.declared.fault.OfferFault.TheVariants as faults
use Rattle.ledger_laws.proofs.shared.Roots.{imaged}
use Rattle.core_machine.specs.Closing.{MayKeep, MayKeepAll, KeptSome}

-- the next form
pub next_form : (forms : List FormOf) (i : ℕ) (f : FormOf) → i < length forms → f ≡ get_or forms i f
    → map (λ x. x.form) (drop i forms) ≡ f.form ∷ map (λ x. x.form) (drop (i + 1) forms)
next_form forms i f lt is =
    ap (map (λ (x : FormOf). x.form)) (drop_more forms i f lt ∙ ap (λ (x : FormOf). x ∷ drop (i + 1) forms) (sym is))

-- its hash is among those of all
pub form_among : (forms : List FormOf) (i : ℕ) (f : FormOf) → i < length forms → f ≡ get_or forms i f
    → Contains (map (λ x. x.hash) forms) f.hash
form_among forms i f lt is =
    subst (λ (x : FormOf). Contains (map (λ y. y.hash) forms) x.hash) (sym is) (imaged (λ (x : FormOf). x.hash) forms i f lt)

module _ (half : Half) where
  -- the forms before these are stored, and the clash of all is that of these
  pub record AreKept (s : State) (forms left : List Bytes) (s' : State) : Type 0 where
    pub kept : List Bytes
    pub whole : forms ≡ kept ++ left
    pub state : IsAfter (with_forms half s kept) s'
    pub clash : first_clash half s forms ≡ first_clash half s' left

  forms_one : (s : State) (kept : List Bytes) (form : Bytes)
      → with_forms half s (kept ++ form ∷ []) ≡ with_form half (with_forms half s kept) form
  forms_one s [] form = refl
  forms_one s (x ∷ kept) form = forms_one (with_form half s x) kept form

  -- what a rotation was told is no matter of clashes
  clash_after : (t u : State) (forms : List Bytes) → IsAfter t u → first_clash half t forms ≡ first_clash half u forms
  clash_after t u [] a = refl
  clash_after t u (form ∷ rest) a =
      ap (λ (x : State). option_or (clash_under (half form) form (form_in x (half form))) (first_clash half (with_form half t form) rest))
      (sym a)
      ∙ ap (option_or (clash_under (half form) form (form_in u (half form))))
      (clash_after (with_form half t form) (with_form half u form) rest (form_after half t u form a))

  -- one form more
  one_after : (s s' s'' : State) (kept : List Bytes) (form : Bytes) → IsAfter (with_forms half s kept) s'
      → IsAfter (with_form half s' form) s'' → IsAfter (with_forms half s (kept ++ form ∷ [])) s''
  one_after s s' s'' kept form are new =
      subst (λ (x : State). IsAfter x s'') (sym (forms_one s kept form))
      (after_on (with_form half (with_forms half s kept) form) (with_form half s' form) s''
      (form_after half (with_forms half s kept) s' form are) new)

  pub none_kept : (s : State) (forms : List Bytes) → AreKept s forms forms s
  none_kept s forms = record { kept = []; whole = refl; state = refl; clash = refl }

  pub one_kept : (X : Type 0) (x : X) (s s' s'' : State) (forms left : List Bytes) (form : Bytes) → AreKept s forms (form ∷ left) s'
      → MayKeep {X = X} half s' form (Ok x) s'' → AreKept s forms left s''
  one_kept X x s s' s'' forms left form are may = record {
    kept = are.kept ++ form ∷ [];
    whole = are.whole ∙ sym (append_assoc are.kept (form ∷ []) left);
    state = one_after s s' s'' are.kept form are.state may.1;
    clash = are.clash ∙ ap (λ (o : Option Clash). option_or o (first_clash half (with_form half s' form) left)) may.0
        ∙ clash_after (with_form half s' form) s'' left may.1;
  }

  some_kept : (s s' s'' : State) (forms left : List Bytes) (form : Bytes) → AreKept s forms (form ∷ left) s'
      → IsAfter s' s'' ⊎ IsAfter (with_form half s' form) s'' → KeptSome half s forms s''
  some_kept s s' s'' forms left form are may =
      ⊎_elim
      (λ same. record {
        kept = are.kept;
        rest = form ∷ left;
        whole = are.whole;
        state = after_on
            (with_forms half s are.kept) s' s'' are.state same;
      })
      (λ new. record {
        kept = are.kept ++ form ∷ [];
        rest = left;
        whole = are.whole ∙ sym (append_assoc are.kept (form ∷ []) left);
        state = one_after s s' s'' are.kept form are.state new;
      }) may

  pub failed_kept : (X Y : Type 0) (s s' s'' : State) (forms left : List Bytes) (form : Bytes) (why : OfferFault)
      → AreKept s forms (form ∷ left) s'
      → MayKeep {X = X} half s' form (Err why) s'' → MayKeepAll {X = Y} half s forms (Err why) s''
  failed_kept X Y s s' s'' forms left form (faults.Clash h old new) are may = (
    are.clash ∙ ap (λ (o : Option Clash). option_or o (first_clash half (with_form half s' form) left)) may.0,
    record { kept = are.kept; rest = form ∷ left; whole = are.whole; state = after_on (with_forms half s are.kept) s' s'' are.state may.1 },
  )
  failed_kept X Y s s' s'' forms left form faults.Fault are may = some_kept s s' s'' forms left form are may
  failed_kept X Y s s' s'' forms left form faults.Memory are may = some_kept s s' s'' forms left form are may
