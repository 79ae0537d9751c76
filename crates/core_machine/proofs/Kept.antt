-- A form that a close puts into the store.
use Rattle.std.proofs.Common.{◌≡◌, ◌⊎◌, inl, inr, ⊎_elim, Bool, true, false, if◌then◌else◌, is_some}
use Rattle.std.proofs.Common.{◌≢◌, [], ◌∷◌, Option, None, Some, Result, Ok, Err, IfErr, refl, sym, ap, ◌∙◌, subst}
use Rattle.std.specs.FinMap as finite
use Rattle.std.specs.FinSet as set
use Rattle.std.specs.Cmp.Lexicographic.{same_text}
use Rattle.node_offer.specs.declared.fault.OfferFault.{OfferFault}
use Rattle.node_offer.specs.declared.fault.OfferFault.TheVariants as offer
use Rattle.ledger_spec.specs.Bytes.{Bytes, Half, Nodes, same_bytes}
use Rattle.ledger_spec.proofs.shared.Owning.{same_self}
use Rattle.ledger_machine.specs.Closing.{clash_under}
use Rattle.ledger_machine.specs.State.{State, form_in, with_form}
use Rattle.rotating_store.specs.Stores.{Store, nodes_of, Counted, with_pair}
use Rattle.rotating_store.specs.Puts.{Puts, MayStore, TellsWrongHash}
use Rattle.rotating_store.specs.declared.outcome.Put.{Put}
use Rattle.rotating_store.specs.declared.outcome.Put.TheVariants as put
use Rattle.rotating_store.specs.declared.outcome.StoreFault.{StoreFault}
use Rattle.rotating_store.specs.declared.outcome.StoreFault.TheVariants as fault
use Rattle.core_machine.specs.Closing.{IsUnderOwn, MayKeep, kept_by}
use Rattle.core_machine.specs.Desks.{over}
use Rattle.ledger_machine.specs.Steps.{IsAfter}
use Rattle.core_machine.proofs.shared.States.{same_shaded, after_on, form_after}
use Rattle.core_machine.proofs.shared.Entries.{IsOver, same_over, stored_over}

-- what refuses a form that was put under its own hash
pub under_own : (half : Half) (form : Bytes) (r : Result Put StoreFault) → TellsWrongHash half (half form) form r → IfErr r IsUnderOwn
under_own half form (Ok p) wrong = tt
under_own half form (Err (fault.WrongHash h found)) wrong = wrong.0 refl
under_own half form (Err (fault.Clash h old new)) wrong = tt
under_own half form (Err fault.Fault) wrong = tt
under_own half form (Err fault.Memory) wrong = tt

-- other bytes aren't the same
apart : (old form : Bytes) → old ≢ form → same_bytes old form ≡ false
apart old form other = at (same_bytes old form) refl
  where
    at : (b : Bool) → same_bytes old form ≡ b → b ≡ false
    at true e = absurd (other (same_text old form (sym e)))
    at false e = refl

module _ (half : Half) (st st' : Store) (s : State) (is : IsOver st s) (form : Bytes) where
  -- what is held under the form's hash
  held : (o : Option Bytes) → finite.get (nodes_of st) (half form) ≡ o → form_in s (half form) ≡ o
  held o e = ap (λ (n : Nodes). finite.get n (half form)) is.nodes ∙ e

  -- a form that wasn't there is stored now
  new_kept : finite.get (nodes_of st) (half form) ≡ None → Counted (with_pair st (half form) form) st' → over st' s ≡ with_form half s form
  new_kept none counted =
      stored_over half st st' s (form ∷ []) is
      (subst (λ (x : Store). Counted x st')
      (sym (ap (λ (o : Option Bytes). if is_some o then st else with_pair st (half form) form) none)) counted)

  may_kept : MayStore st (half form) form st' → IsAfter s (over st' s) ⊎ IsAfter (with_form half s form) (over st' s)
  may_kept may =
      ⊎_elim (λ same. inl (same_shaded (over st' s) s (same_over st st' s is same)))
      (λ new. inr (same_shaded (over st' s) (with_form half s form) (new_kept new.0 new.1))) may

  pub keeps_by : (r : Result Put StoreFault) → Puts st (half form) form r st' → TellsWrongHash half (half form) form r
      → MayKeep half s form (kept_by r) (over st' s)
  keeps_by (Ok put.New) puts wrong = (
    ap (clash_under (half form) form) (held None puts.0),
    same_shaded (over st' s) (with_form half s form) (new_kept puts.0 puts.1),
  )
  keeps_by (Ok put.Same) puts wrong = (
    ap (clash_under (half form) form) (held (Some form) puts.0)
        ∙ ap (λ (t : Bool). if t then None else Some (record { hash = half form; old = form; new = form })) (same_self form),
    same_shaded (over st' s) (with_form half s form)
        (same_over st st' s is puts.1 ∙ sym (ap (λ (o : Option Bytes). if is_some o then s else record s
        { nodes = finite.insert s.nodes (half form) form; born = set.insert s.born (half form) }) (held (Some form) puts.0))),
  )
  keeps_by (Err (fault.WrongHash h found)) puts wrong = absurd (wrong.0 refl)
  keeps_by (Err (fault.Clash h old new)) puts wrong = (
    ap (clash_under (half form) form) (held (Some old) puts.2)
        ∙ ap (λ (t : Bool). if t then None else Some (record { hash = half form; old = old; new = form })) (apart old form puts.3)
        ∙ (λ i. Some (record { hash = sym puts.0 i; old = old; new = sym puts.1 i })),
    same_shaded (over st' s) s (same_over st st' s is puts.4),
  )
  keeps_by (Err fault.Fault) puts wrong = may_kept puts
  keeps_by (Err fault.Memory) puts wrong = may_kept puts

-- what is kept after a rotation was told of it is kept
module _ (half : Half) (s t : State) (after : IsAfter s t) (form : Bytes) where
  same_clash : clash_under (half form) form (form_in s (half form)) ≡ clash_under (half form) form (form_in t (half form))
  same_clash = ap (λ (x : State). clash_under (half form) form (form_in x (half form))) (sym after)

  told_may : (u : State) → IsAfter t u ⊎ IsAfter (with_form half t form) u → IsAfter s u ⊎ IsAfter (with_form half s form) u
  told_may u may =
      ⊎_elim (λ same. inl (after_on s t u after same))
      (λ new. inr (after_on (with_form half s form) (with_form half t form) u (form_after half s t form after) new)) may

  pub told_keeps : {X : Type 0} (r : Result X OfferFault) (u : State) → MayKeep half t form r u → MayKeep half s form r u
  told_keeps (Ok x) u may =
      (same_clash ∙ may.0, after_on (with_form half s form) (with_form half t form) u (form_after half s t form after) may.1)
  told_keeps (Err (offer.Clash h old new)) u may = (same_clash ∙ may.0, after_on s t u after may.1)
  told_keeps (Err offer.Fault) u may = told_may u may
  told_keeps (Err offer.Memory) u may = told_may u may
