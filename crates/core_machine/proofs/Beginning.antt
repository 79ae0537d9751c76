-- What a rotator's begin is to the machine's row.
use Rattle.std.proofs.Common.{◌∷◌, suc, cond, nat_le, length, arith}
use Rattle.std.specs.List.{filter}
use Rattle.std.proofs.Common.{◌≡◌, inl, inr, ⊎_elim, ◌≤◌, ◌++◌, ℕ, Bool, true, false, is_some, IsTrue, List, [], Option}
use Rattle.std.proofs.Common.{None, Some}
use Rattle.std.proofs.Common.{Contains, refl, sym, ap, ◌∙◌, subst}
use Rattle.std.specs.Map.{keys_of, values_of}
use Rattle.std.proofs.lemmas.Bool.{false≢true}
use Rattle.ledger_spec.specs.Bytes.{Hash}
use Rattle.ledger_spec.specs.Maps.{ForHash, ForActor, hash_cmp, has_in}
use Rattle.ledger_spec.specs.Acquiring.{Acquiring}
use Rattle.ledger_spec.specs.Retaining.{Retention, due, floor_behind, listed_from}
use Rattle.rotating_store.specs.Stores.{Store}
use Rattle.online_rotate.specs.declared.rotator.Begun.{Begun}
use Rattle.online_rotate.specs.declared.rotator.Begun.TheVariants as begun
use Rattle.online_rotate.specs.Rotators.{Turning, InStep, begun_by, AfterBegin}
use Rattle.ledger_machine.specs.State.{State}
use Rattle.ledger_machine.specs.Rotation.{begin_given, begin_reply, after_begin}
use Rattle.ledger_machine.specs.Steps.{IsAfter}
use Rattle.core_machine.specs.Desks.{state_of}
use Rattle.core_machine.specs.Telling.{begin_told, BeginsBy, CountsFrom}
use Rattle.ledger_machine.specs.declared.commands.Command.TheVariants as command
use Rattle.ledger_machine.specs.declared.commands.Reply.TheVariants as says
use Rattle.core_machine.proofs.shared.States.{same_shaded}

-- a filtered list isn't longer
filter_few : {X : Type 0} (p : X → Bool) (xs : List X) → length (filter p xs) ≤ length xs
filter_few p [] = omega arith
filter_few p (x ∷ xs) =
    elim (p x) as (λ b. length (cond b (x ∷ filter p xs) (filter p xs)) ≤ suc (length xs)) [
      | true ↦ omega (arith, filter_few p xs)
      | false ↦ omega (arith, filter_few p xs)
    ]

module _ (st : Store) (wanted : ForHash Acquiring) (views : ForActor Hash) (b : Retention) (r : Turning) where
  abbrev s : State
  s = state_of st wanted views b r

  -- the answer is the row's
  pub begin_said : (reply : Begun) → InStep r b → reply ≡ begun_by r.turning (due b) b.last → begin_told reply ≡ begin_reply s
  begin_said reply step is = ap begin_told is ∙ at r.turning b.turning (due b) step
    where
      at : (t : Bool) (o d : Option ℕ) → t ≡ is_some o → begin_told (begun_by t d b.last) ≡ begin_given s o d
      at true (Some v) d e = refl
      at true None d e = absurd (false≢true (sym e))
      at false (Some v) d e = absurd (false≢true e)
      at false None None e = refl
      at false None (Some v) e = refl

  -- what it says is the greatest listed sequence, and the floor behind the last rotation
  told_by : (seq floor : ℕ) → begun.Begun seq floor ≡ begun_by r.turning (due b) b.last → (due b ≡ Some seq) × (floor ≡ floor_behind b.last)
  told_by seq floor is = at r.turning (due b) refl is
    where
      at : (t : Bool) (d : Option ℕ) → due b ≡ d → begun.Begun seq floor ≡ begun_by t d b.last
          → (due b ≡ Some seq) × (floor ≡ floor_behind b.last)
      at true d e none = cc
      at false None e none = cc
      at false (Some v) e same = let first : seq ≡ v = cc in (e ∙ ap Some (sym first), cc)

  module _ (targets : List Hash) (b' : Retention) (r' : Turning) where
    abbrev s' : State
    s' = state_of st wanted views b' r'

    unchanged : b' ≡ b → r' ≡ r → s' ≡ s
    unchanged same still =
        ap (λ (x : Retention). state_of st wanted views x r') same ∙ ap (λ (x : Turning). state_of st wanted views b x) still

    -- nothing is listed anew
    pub begin_few : (reply : Begun) → AfterBegin b targets r reply b' r' → length b'.listed ≤ length b.listed
    begin_few (begun.Begun seq floor) after = omega (
      arith,
      ap (λ (x : Retention). length x.listed) after.0,
      filter_few (λ (e : Hash × ℕ). nat_le (floor_behind b.last) e.1) b.listed,
    )
    begin_few begun.NotDue after = omega (arith, ap (λ (x : Retention). length x.listed) after.0)
    begin_few begun.Busy after = omega (arith, ap (λ (x : Retention). length x.listed) after.0)

    -- no slice of it was done
    pub begin_counts : (reply : Begun) → AfterBegin b targets r reply b' r'
        → CountsFrom command.Begin (says.Begin (begin_told reply)) r.slices r'.slices
    begin_counts (begun.Begun seq floor) after = after.1.none_sliced
    begin_counts begun.NotDue after = ap (λ (x : Turning). x.slices) after.1
    begin_counts begun.Busy after = ap (λ (x : Turning). x.slices) after.1

    pub begin_after : (reply : Begun) → reply ≡ begun_by r.turning (due b) b.last → AfterBegin b targets r reply b' r'
        → IsAfter (after_begin s (begin_told reply)) s'
    begin_after (begun.Begun seq floor) is after =
        let by = told_by seq floor is in
        ap (λ (x : Retention). state_of st wanted views x r') after.0
        ∙ (λ i. record (state_of st wanted views b r')
        { floor = sym by.1 i; listed = listed_from (sym by.1 i) b.listed; turning = by.0 i })
    begin_after begun.NotDue is after = same_shaded s' s (unchanged after.0 after.1)
    begin_after begun.Busy is after = same_shaded s' s (unchanged after.0 after.1)

    -- nothing is pinned, so the rotation was told of the ledgers that stay listed and of the targets
    pub begin_by : (more : List Hash) (reply : Begun) → b.pins ≡ [] → targets ≡ values_of views ++ keys_of wanted ++ more
        → AfterBegin b targets r reply b' r' → BeginsBy s more (begin_told reply) s'
    begin_by more (begun.Begun seq floor) pins are after = λ h. (
      (λ c. ⊎_elim
          (λ listed. ⊎_elim (λ pinned. absurd (unpinned h pinned)) (λ high. inl high) listed)
          (λ target. inr (subst (λ (hs : List Hash). Contains hs h) are target)) ((after.1.told h).0 c)),
      (λ named. (after.1.told h).1 (⊎_elim (λ high. inl (inr high))
          (λ target. inr (subst (λ (hs : List Hash). Contains hs h) (sym are) target)) named)),
    )
      where
        unpinned : (h : Hash) → IsTrue (has_in hash_cmp b.pins h) → ⊥
        unpinned h held = false≢true (ap (λ (m : ForHash ℕ). has_in hash_cmp m h) (sym pins) ∙ held)
    begin_by more begun.NotDue pins are after = ap (λ (x : Turning). x.shaded) after.1
    begin_by more begun.Busy pins are after = ap (λ (x : Turning). x.shaded) after.1
