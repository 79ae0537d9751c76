-- What a swap may leave, and must leave, of a state whose stored forms are given as a list of entries.
use Rattle.std.specs.Prelude.{◌≡◌, ◌≢◌, ◌⊎◌, ◌+◌, true, is_some, List, [], ◌∷◌, map, Option, None, Some, refl}
use Rattle.std.specs.List.{list_all, AllByRecursion}
use Rattle.std.specs.FinMap as finite
use Rattle.std.specs.FinMap.{slice_cmp-IsAntisymmetric, nat_cmp-IsAntisymmetric}
use Rattle.std.specs.FinSet as set
use Rattle.std.specs.Cmp.Lexicographic.{nat_list_cmp_total}
use Rattle.std.proofs.Common.{ap, sym, ◌∙◌, subst, inl, inr, true≢false, IsTrue}
use Rattle.ledger_spec.specs.Maps.{hash_cmp}
use Rattle.ledger_spec.specs.Bytes.{Bytes, Hash, Lookup}
use Rattle.ledger_spec.specs.Reach.{Reach}
use Rattle.ledger_machine.specs.State.{State, form_in, roots, Kept}
use Rattle.ledger_machine.specs.Rotation.{Swapped, Carries}
use Rattle.ledger_machine.proofs.RowSteps.{Entries, in_list, over, lookup_of}
use Rattle.ledger_machine.proofs.RowReach.{among, is_closed, reach_within, found_in_part, found_among, at_one, one_passes, reach_more}
use Rattle.ledger_machine.proofs.RowReach.{first_passes, rest_pass}

abbrev pub keys : Entries → List Hash
keys es = map (λ e. e.0) es

-- each entry of the part is the list's
abbrev pub IsPart : Entries → Entries → Type 0
IsPart part all = AllByRecursion (λ e. in_list all e.0 ≡ Some e.1) part

-- the state after a swap that leaves this part
abbrev pub swapped_to : State → Entries → List Hash → State
swapped_to s part shaded = record s {
  nodes = finite.from_entries part;
  born = set.empty;
  epoch = s.epoch + 1;
  last = s.turning;
  turning = None;
  shaded = shaded;
}

-- the hash is kept by the rotation, or was written in this epoch
abbrev pub MayStay : State → Entries → List Hash → Hash → Type 0
MayStay s all born h = Reach (in_list all) s.shaded h ⊎ (among born h ≡ true)

pub reach_off : (es : Entries) {from : List Hash} {h : Hash} → Reach (finite.get (finite.from_entries {R = hash_cmp} es)) from h
    → Reach (in_list es) from h
reach_off es {from = from} {h = h} reached = subst (λ (n : Lookup). Reach n from h) (lookup_of es) reached

pub reach_on : (es : Entries) {from : List Hash} {h : Hash} → Reach (in_list es) from h
    → Reach (finite.get (finite.from_entries {R = hash_cmp} es)) from h
reach_on es {from = from} {h = h} reached = subst (λ (n : Lookup). Reach n from h) (sym (lookup_of es)) reached

at : (es : Entries) (h : Hash) → finite.get (finite.from_entries {R = hash_cmp} es) h ≡ in_list es h
at es h = ap (λ (n : Lookup). n h) (lookup_of es)

module _ (s : State) (all : Entries) (born : List Hash) (part : Entries) where
  -- a part that has all that the roots reach, and else what may stay
  pub swap_may_leave : (shaded reached : List Hash) → IsPart part all
      → list_all (among reached) (roots s) ≡ true → is_closed (in_list all) reached ≡ true
      → AllByRecursion (λ h. in_list part h ≡ in_list all h) reached
      → AllByRecursion (MayStay s all born) (keys part)
      → Swapped (over s all born) (swapped_to s part shaded)
  swap_may_leave shaded reached is_part starts closed same stays = record {
    fewer = λ h form is. at all h ∙ found_in_part part all is_part h form (sym (at part h) ∙ is);
    reached = λ h r. at part h ∙ at_one (λ h. in_list part h ≡ in_list all h) h reached same
        (reach_within (in_list all) (roots s) reached starts closed (reach_off all r)) ∙ sym (at all h);
    only = λ h there. by h (in_list part h) refl (λ none. there (at part h ∙ none));
    rest = refl;
  }
    where
      kept : (h : Hash) → MayStay s all born h → Kept (over s all born) h ⊎ IsTrue (set.contains (over s all born).born h)
      kept h (inl reached) = inl (reach_on all reached)
      kept h (inr one) = inr (set.contains-from_list nat_list_cmp_total born h ∙ one)

      by : (h : Hash) (o : Option Bytes) → in_list part h ≡ o → in_list part h ≢ None
          → Kept (over s all born) h ⊎ IsTrue (set.contains (over s all born).born h)
      by h None is there = absurd (there is)
      by h (Some form) is there = kept h (at_one (MayStay s all born) h (keys part) stays (found_among part h form is))

  -- where it leaves this part, what the roots reach is as before
  pub swap_may_not_lose : (shaded : List Hash) (h : Hash) → Reach (in_list all) (roots s) h
      → Swapped (over s all born) (swapped_to s part shaded) → in_list part h ≡ in_list all h
  swap_may_not_lose shaded h reached w = sym (at part h) ∙ w.reached h (reach_on all reached) ∙ at all h

  -- and what it leaves was kept, or written in this epoch
  pub swap_may_not_hold : (shaded reached : List Hash) (h : Hash) (form : Bytes) → list_all (among reached) s.shaded ≡ true
      → is_closed (in_list all) reached ≡ true
      → in_list part h ≡ Some form → Swapped (over s all born) (swapped_to s part shaded)
      → (among reached h ≡ true) ⊎ (among born h ≡ true)
  swap_may_not_hold shaded reached h form starts closed is w = by
      (w.only h (λ none. absurd (let e : Some form ≡ None = sym is ∙ sym (at part h) ∙ none in cc)))
    where
      by : (Kept (over s all born) h ⊎ IsTrue (set.contains (over s all born).born h))
          → (among reached h ≡ true) ⊎ (among born h ≡ true)
      by (inl kept) = inl (reach_within (in_list all) s.shaded reached starts closed (reach_off all kept))
      by (inr one) = inr (sym (set.contains-from_list nat_list_cmp_total born h) ∙ one)

  -- where all that is kept or was written in this epoch is reached, a swap leaves exactly that
  pub swap_leaves : IsPart part all → AllByRecursion (Reach (in_list all) (roots s)) (keys part)
      → list_all (λ h. is_some (in_list part h)) (keys part) ≡ true
      → list_all (among (keys part)) s.shaded ≡ true → is_closed (in_list all) (keys part) ≡ true
      → list_all (among (keys part)) born ≡ true
      → (s' : State) → Swapped (over s all born) s' → s'.nodes ≡ finite.from_entries part
  swap_leaves is_part reached there starts closed new s' w =
      finite.same_map nat_list_cmp_total (slice_cmp-IsAntisymmetric nat_cmp-IsAntisymmetric) s'.nodes (finite.from_entries part)
      (λ h. by h (in_list part h) refl ∙ sym (at part h))
    where
      none_there : (h : Hash) → in_list part h ≡ None → among (keys part) h ≡ true → ⊥
      none_there h none one = true≢false (sym (one_passes (λ h. is_some (in_list part h)) h (keys part) there one)
          ∙ ap is_some none)

      unkept : (h : Hash) → in_list part h ≡ None → (Kept (over s all born) h ⊎ IsTrue (set.contains (over s all born).born h)) → ⊥
      unkept h none (inl kept) = none_there h none (reach_within (in_list all) s.shaded (keys part) starts closed
          (reach_off all kept))
      unkept h none (inr one) = none_there h none (one_passes (among (keys part)) h born new
          (sym (set.contains-from_list nat_list_cmp_total born h) ∙ one))

      gone : (h : Hash) (o : Option Bytes) → in_list part h ≡ None → form_in s' h ≡ o → o ≡ None
      gone h None none is = refl
      gone h (Some form) none is = absurd (unkept h none (w.only h (λ e. absurd cc)))

      by : (h : Hash) (o : Option Bytes) → in_list part h ≡ o → form_in s' h ≡ in_list part h
      by h None is = gone h (form_in s' h) is refl ∙ sym is
      by h (Some form) is =
          w.reached h (reach_on all (at_one (Reach (in_list all) (roots s)) h (keys part) reached (found_among part h form is)))
          ∙ at all h ∙ found_in_part part all is_part h form is ∙ sym is

-- what was written in this epoch may stay
pub born_may_stay : (s : State) (all : Entries) (born hs : List Hash) → list_all (among born) hs ≡ true
    → AllByRecursion (MayStay s all born) hs
born_may_stay s all born [] e = tt
born_may_stay s all born (h ∷ hs) e = (
  inr (first_passes (among born h) _ e),
  born_may_stay s all born hs
      (rest_pass (among born h) _ e),
)

-- while a rotation is under way, a step that stores nothing and whose roots all were shaded carries what is kept
pub carries_on : (s s' : State) (own : List Hash) → s'.nodes ≡ s.nodes → s'.shaded ≡ s.shaded
    → list_all (among s.shaded) (roots s') ≡ true → Carries s s' own
carries_on s s' own nodes shaded are = record {
  before = λ h kept. back h kept;
  roots_kept = λ h reached. back h (subst (λ (n : Lookup). Reach n s.shaded h) (ap finite.get nodes)
      (reach_more (roots s') s.shaded are reached));
  only = λ h kept. inl (forth h kept);
}
  where
    back : (h : Hash) → Reach (form_in s) s.shaded h → Kept s' h
    back h kept = subst (λ (m : List Hash). Reach (form_in s') m h) (sym shaded)
        (subst (λ (n : Lookup). Reach n s.shaded h) (sym (ap finite.get nodes)) kept)

    forth : (h : Hash) → Kept s' h → Kept s h
    forth h kept = subst (λ (m : List Hash). Reach (form_in s) m h) shaded
        (subst (λ (n : Lookup). Reach n s'.shaded h) (ap finite.get nodes) kept)
