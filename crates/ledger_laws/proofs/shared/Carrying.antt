-- A step carries what the rotation was told: what is reached from that was kept before, or it is reached from what is new. For proofs of
-- other crates.
use Rattle.std.proofs.Common.{◌≡◌, ◌⊎◌, inl, inr, ⊎_elim, ℕ, List, map, Option, None, Some, Contains, sym, ap, ◌∙◌, subst}
use Rattle.std.proofs.lemmas.List.Elements.{Contains-append_left}
use Rattle.ledger_spec.specs.Bytes.{Bytes, Hash, Half, Lookup}
use Rattle.ledger_spec.specs.Forms.{Held}
use Rattle.ledger_spec.specs.Reach.{Reach, root, kid, Stored, kids}
use Rattle.ledger_spec.proofs.shared.ReachLaws.{Grows, reach_grows, reach_joins}
use Rattle.ledger_machine.specs.declared.commands.Command.{Command}
use Rattle.ledger_machine.specs.declared.commands.Reply.{Reply}
use Rattle.ledger_machine.specs.State.{State, form_in, roots, Kept}
use Rattle.ledger_machine.specs.Rotation.{Carries, AreShaded, Tells, WhileTurning}
use Rattle.ledger_machine.specs.Steps.{Does, Step, own_forms, own_hashes, want_target}
use Rattle.ledger_laws.proofs.shared.SoundForms.{some_same}
use Rattle.ledger_laws.proofs.shared.SoundSessions.{in_map}
use Rattle.ledger_laws.proofs.shared.Stored.{Stores, Goes, on, begun, swapped}
use Rattle.ledger_laws.proofs.shared.Going.{row_goes}

-- what is reached is stored
pub reach_stored : {nodes : Lookup} {roots : List Hash} {h : Hash} → Reach nodes roots h → Stored nodes h
reach_stored (root named stored) = stored
reach_stored (kid reached form named stored) = stored

module _ (s s' : State) (own : List Hash) (grows : Grows (form_in s) (form_in s'))
    (adds : (h : Hash) (form : Bytes) → form_in s' h ≡ Some form → (form_in s h ≡ Some form) ⊎ Contains own h) where
  -- what a rotation may keep after a step
  abbrev IsKeptOrNew : Hash → Type 0
  IsKeptOrNew h = Kept s h ⊎ (Reach (form_in s') (roots s') h ⊎ Reach (form_in s') own h)

  -- a hash that it was told
  told_from : (h : Hash) → Stored (form_in s') h → Contains s.shaded h ⊎ (Contains (roots s') h ⊎ Contains own h) → IsKeptOrNew h
  told_from h stored told =
      ⊎_elim
      (λ old. ⊎_elim (λ was. inl (root old (stored.0, was))) (λ new. inr (inr (root new stored))) (adds h stored.0 stored.1))
      (λ more. ⊎_elim (λ r. inr (inl (root r stored))) (λ o. inr (inr (root o stored))) more) told

  -- what the form under such a hash names: a form that stood there before is the same now, and what it names stood there or is new
  kid_from : (h k : Hash) (form : Bytes) → IsKeptOrNew h → form_in s' h ≡ Some form → Contains (kids form) k → Stored (form_in s') k
      → IsKeptOrNew k
  kid_from h k form (inl kept) is named stored =
      let was : Stored (form_in s) h = reach_stored kept in
      let same : was.0 ≡ form = some_same (sym (grows h was.0 was.1) ∙ is) in
      ⊎_elim (λ old. inl (kid kept (was.1 ∙ ap Some same) named (stored.0, old))) (λ new. inr (inr (root new stored)))
      (adds k stored.0 stored.1)
  kid_from h k form (inr (inl reached)) is named stored = inr (inl (kid reached is named stored))
  kid_from h k form (inr (inr reached)) is named stored = inr (inr (kid reached is named stored))

  -- by the way on which it is reached: it was told, or a form that is such names it
  kept_from : (shaded : List Hash)
      → ((h : Hash) → Contains shaded h → Contains s.shaded h ⊎ (Contains (roots s') h ⊎ Contains own h))
      → {h : Hash} → Reach (form_in s') shaded h → IsKeptOrNew h
  kept_from shaded only {h} (root named stored) = told_from h stored (only h named)
  kept_from shaded only {h} (kid reached form named stored) =
      kid_from _ h _ (kept_from shaded only reached) form named stored

  -- such a step carries what is kept
  carries : AreShaded s' → Tells s s' own → Carries s s' own
  carries are told = record {
    before = λ h kept. reach_joins (λ r c stored. root (told.stays r c) stored) (reach_grows grows kept);
    roots_kept = λ h reached. reach_joins (λ r c stored. root (are r c) stored) reached;
    only = λ h kept. kept_from s'.shaded told.only kept;
  }

-- what follows while a rotation is under way
while_maps : (o p : Option ℕ) (P Q : Type 0) → (P → Q) → WhileTurning o p P → WhileTurning o p Q
while_maps (Some v) (Some w) P Q f x = f x
while_maps (Some v) None P Q f x = tt
while_maps None p P Q f x = tt

-- behind a swap none is
while_none : (o p : Option ℕ) (P : Type 0) → p ≡ None → WhileTurning o p P
while_none None p P e = tt
while_none (Some v) None P e = tt
while_none (Some v) (Some w) P e = cc

-- what a command does is a step, where the rotation was told of each root and of nothing else but own forms
pub step_told : (half : Half) (s s' : State) (a : ℕ) (c : Command) (reply : Reply) (used : List Held) → Does half s a c reply used s'
    → WhileTurning s.turning s'.turning (AreShaded s' × Tells s s' (own_hashes half s a c reply)) → Step half s a c reply used s'
step_told half s s' a c reply used does told = record {
  outcome = does.outcome;
  uses = does.uses;
  carries = at (row_goes half s a c reply used s' does.outcome);
}
  where
    own : List Hash
    own = own_hashes half s a c reply

    new_own : (h : Hash) (form : Bytes) → (h ≡ half form) × Contains (own_forms half s a c) form → Contains own h
    new_own h form new =
        let forms : List Bytes = own_forms half s a c in
        let named : Contains (map half forms) (half form) =
        subst (λ (f : Bytes). Contains (map half forms) (half f)) new.1.2 (in_map half forms new.1.0 form new.1.1) in
        subst (λ (x : Hash). Contains own x) (sym new.0) (Contains-append_left (map half forms) (want_target c reply) (half form) named)

    by : Stores half (own_forms half s a c) s s' → WhileTurning s.turning s'.turning (Carries s s' own)
    by st = while_maps s.turning s'.turning (AreShaded s' × Tells s s' own) (Carries s s' own)
        (λ both. carries s s' own st.grows (λ h form e. ⊎_elim (λ old. inl old) (λ new. inr (new_own h form new)) (st.adds h form e))
        both.0 both.1) told

    at : Goes half c (own_forms half s a c) s s' → WhileTurning s.turning s'.turning (Carries s s' own)
    at (on g) = by g.stores
    at (begun st shades) = by st
    at (swapped is w) = while_none s.turning s'.turning (Carries s s' own) (ap (λ (x : State). x.turning) w.rest)
