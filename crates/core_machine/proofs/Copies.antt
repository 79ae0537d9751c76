-- Nothing is copied as a store is read, or as a form is written that it hadn't.
use Rattle.std.proofs.Common.{◌≡◌, ⊎_elim, ℕ, Bool, true, false, ◌&&◌, List, [], ◌∷◌, Option, None, Some, Result, Ok, Err, is_some}
use Rattle.std.proofs.Common.{if◌then◌else◌, refl, sym, ap, ◌∙◌}
use Rattle.std.specs.FinMap as finite
use Rattle.std.specs.Option.{option_or}
use Rattle.std.specs.Ordering.{eq_by_cmp}
use Rattle.ledger_spec.specs.Bytes.{Bytes, Hash, Half, Nodes}
use Rattle.ledger_spec.specs.Maps.{hash_cmp}
use Rattle.rotating_store.specs.Stores.{Store, nodes_of, Counted, with_pair}
use Rattle.rotating_store.specs.Puts.{Puts, MayStore}
use Rattle.rotating_store.specs.declared.outcome.Put.{Put}
use Rattle.rotating_store.specs.declared.outcome.Put.TheVariants as put
use Rattle.rotating_store.specs.declared.outcome.StoreFault.{StoreFault}
use Rattle.rotating_store.specs.declared.outcome.StoreFault.TheVariants as fault
use Rattle.rotating_store.proofs.shared.Merging.{get-merged}
use Rattle.node_offer.specs.Stored as store
use Rattle.ledger_laws.proofs.shared.SoundForms.{get_more, same_hash}

-- what stays of a store
abbrev pub backs_of : Store → Nodes × (Hash → Bool) × ℕ
backs_of st = (st.archive, (λ h. is_some (finite.get st.writable h) && is_some (finite.get st.archive h)), st.epoch)

pub counted_backs : (st st' : Store) → Counted st st' → backs_of st' ≡ backs_of st
counted_backs st st' e = ap backs_of e

and_none : (b : Bool) → (b && false) ≡ false
and_none true = refl
and_none false = refl

-- what neither backend held the archive didn't
unarchived : (st : Store) (h : Hash) → finite.get (nodes_of st) h ≡ None → finite.get st.archive h ≡ None
unarchived st h none = at (finite.get st.writable h) (sym (get-merged st.writable st.archive h) ∙ none)
  where
    at : (o : Option Bytes) → option_or o (finite.get st.archive h) ≡ None → finite.get st.archive h ≡ None
    at None e = e
    at (Some x) e = cc

pub pair_backs : (st : Store) (h : Hash) (form : Bytes) → finite.get (nodes_of st) h ≡ None → backs_of (with_pair st h form) ≡ backs_of st
pair_backs st h form none = λ i. (st.archive, (λ q. at q (eq_by_cmp hash_cmp q h) refl i), st.epoch)
  where
    at : (q : Hash) (b : Bool) → eq_by_cmp hash_cmp q h ≡ b
        → (is_some (finite.get (finite.insert st.writable h form) q) && is_some (finite.get st.archive q))
        ≡ (is_some (finite.get st.writable q) && is_some (finite.get st.archive q))
    at q true same =
        let gone : finite.get st.archive q ≡ None = ap (finite.get st.archive) (same_hash q h same) ∙ unarchived st h none in
        ap (λ (o : Option Bytes). is_some (finite.get (finite.insert st.writable h form) q) && is_some o) gone
        ∙ and_none (is_some (finite.get (finite.insert st.writable h form) q))
        ∙ sym (and_none (is_some (finite.get st.writable q)))
        ∙ ap (λ (o : Option Bytes). is_some (finite.get st.writable q) && is_some o) (sym gone)
    at q false other = ap (λ (o : Option Bytes). is_some o && is_some (finite.get st.archive q)) (get_more st.writable h form q false other)

module _ (half : Half) where
  form_backs : (st : Store) (form : Bytes) → backs_of (store.with_form half st form) ≡ backs_of st
  form_backs st form = at (finite.get (nodes_of st) (half form)) refl
    where
      at : (o : Option Bytes) → finite.get (nodes_of st) (half form) ≡ o
          → backs_of (if is_some o then st else with_pair st (half form) form) ≡ backs_of st
      at None e = pair_backs st (half form) form e
      at (Some old) e = refl

  forms_backs : (forms : List Bytes) (st : Store) → backs_of (store.with_forms half st forms) ≡ backs_of st
  forms_backs [] st = refl
  forms_backs (form ∷ forms) st = forms_backs forms (store.with_form half st form) ∙ form_backs st form

  -- what stores forms copies none
  pub stored_backs : (st st' : Store) → (forms : List Bytes) × store.HasForms half forms st st' → backs_of st' ≡ backs_of st
  stored_backs st st' some = counted_backs (store.with_forms half st some.0) st' some.1 ∙ forms_backs some.0 st

-- a put, whatever it comes to
pub put_backs : (st : Store) (h : Hash) (form : Bytes) (result : Result Put StoreFault) (st' : Store) → Puts st h form result st'
    → backs_of st' ≡ backs_of st
put_backs st h form result st' = at result
  where
    pair : finite.get (nodes_of st) h ≡ None → Counted (with_pair st h form) st' → backs_of st' ≡ backs_of st
    pair none counted = counted_backs (with_pair st h form) st' counted ∙ pair_backs st h form none

    may : MayStore st h form st' → backs_of st' ≡ backs_of st
    may m = ⊎_elim (λ same. counted_backs st st' same) (λ new. pair new.0 new.1) m

    at : (x : Result Put StoreFault) → Puts st h form x st' → backs_of st' ≡ backs_of st
    at (Ok put.New) p = pair p.0 p.1
    at (Ok put.Same) p = counted_backs st st' p.1
    at (Err (fault.WrongHash hash found)) p = counted_backs st st' p
    at (Err (fault.Clash hash old new)) p = counted_backs st st' p.4
    at (Err fault.Fault) p = may p
    at (Err fault.Memory) p = may p
