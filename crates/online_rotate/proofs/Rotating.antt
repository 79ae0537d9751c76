-- What a walk and a swap leave.
use Rattle.std.proofs.Common.{◌≡◌, ◌≢◌, ◌⊎◌, ◌↔◌, ◌+◌, ◌++◌, inl, inr, ⊎_elim, ◌∷◌, ℕ, Bool, IsTrue, true, is_some, List, [], Option}
use Rattle.std.proofs.Common.{Some, None}
use Rattle.std.proofs.Common.{Result, Ok, Err, IfErr, OnErr, Contains, sym, ap, ◌∙◌, subst, refl}
use Rattle.std.proofs.lemmas.List.Elements.{Contains-append_left, Contains-append_right, Contains-append_cases, Contains-push}
use Rattle.std.specs.FinMap as finite
use Rattle.std.specs.FinSet as set
use Rattle.ledger_spec.specs.Maps.{SetOf}
use Rattle.ledger_spec.specs.Bytes.{Bytes, Hash, Lookup, Nodes}
use Rattle.ledger_spec.specs.Reach.{Reach, root, Stored}
use Rattle.ledger_spec.specs.Retaining.{Retention, AreRootsFrom, IsRootFrom, floor_behind}
use Rattle.ledger_spec.proofs.shared.ReachLaws.{reach_joins}
use Rattle.run_io.specs.Bytes.{Rose}
use Rattle.rotating_store.specs.Puts.{IsPlain}
use Rattle.rotating_store.specs.Stores.{Store, merged, nodes_of, SamePast, HasNoNewNotes, KeepsNotes, AddsAtMostOne}
use Rattle.rotating_store.specs.declared.outcome.StoreFault.{StoreFault}
use Rattle.rotating_store.specs.declared.outcome.StoreFault.TheVariants as fault
use Rattle.rotating_store.proofs.shared.Merging.{swap_fewer, swap_only}
use Rattle.copy_walk.specs.Walks.{Walk, Keeps}
use Rattle.copy_walk.specs.Walks as walks
use Rattle.copy_walk.specs.Slices.{Strode, Drains, SameRest}
use Rattle.copy_walk.proofs.shared.Striding.{colours_stay, kept_stays, kept_was, kept_held, held_stays, held_was, shaded_still}
use Rattle.std.specs.Option.{unwrap_or}
use Rattle.ledger_spec.proofs.shared.Storing.{in_one}
use Rattle.online_rotate.specs.Rotators.{Turning, no_walk}
use Rattle.online_rotate.specs.Copying.{IsWalking, CopiesSome, IsFit, Rotated, OnlyReachedOrBorn, RefusedBy}
use Rattle.online_rotate.proofs.shared.Rotating.{some_no_none, fit_on}

pub on_err : {X E : Type 0} (P : Type 0) (r : Result X E) → P → OnErr r P
on_err P (Ok x) p = tt
on_err P (Err e) p = p

there_no_none : (o : Option Bytes) → is_some o ≡ true → o ≢ None
there_no_none None e n = cc
there_no_none (Some x) e n = cc

-- ---- a walk
module _ (told : List Hash) (w : Walk) (s : Store) (k : IsWalking told w s) where
  -- what the walk keeps is what the hashes reach
  pub keeps_reached : (h : Hash) → Keeps (finite.get (nodes_of s)) w h → Reach (finite.get (nodes_of s)) told h
  keeps_reached h r = reach_joins k.kept r

  pub reached_keeps : (h : Hash) → Reach (finite.get (nodes_of s)) told h → Keeps (finite.get (nodes_of s)) w h
  reached_keeps h r = reach_joins (λ q c stored. root (k.told q c stored) stored) r

  module _ (a b : ℕ) (v : Walk) (t : Store) (d : Strode a b w s v t) where
    abbrev nodes : Lookup
    nodes = finite.get (nodes_of s)

    abbrev held : Lookup
    held = finite.get s.writable

    same : finite.get (nodes_of t) ≡ nodes
    same = ap (λ (n : Nodes). finite.get n) d.nodes

    pub strode_some : CopiesSome told s t
    strode_some = record {
      nodes = d.nodes;
      archive = d.archive;
      kept = λ h form e. held_stays nodes w held d.strides h form e;
      only = λ h form e. ⊎_elim (λ old. inl old) (λ new. inr (keeps_reached h new.0, new.1)) (held_was nodes w held d.strides h form e);
    }

    pub strode_walks : IsWalking told v t
    strode_walks = record {
      colours = subst (λ (n : Lookup). walks.Colours n (finite.get t.writable) v) (sym same)
          (colours_stay nodes w held d.strides k.colours);
      told = λ h c stored.
          let was : Stored nodes h = subst (λ (n : Lookup). Stored n h) same stored in
          shaded_still nodes w held d.strides h (k.told h c was) was;
      kept = λ h c stored. subst (λ (n : Lookup). Reach n told h) (sym same)
          (keeps_reached h (kept_was nodes w held d.strides h (root c (subst (λ (n : Lookup). Stored n h) same stored))));
    }

    -- nothing is grey, so all that is reached is in the writable backend
    pub drained : v.grey ≡ [] → (h : Hash) → Reach nodes told h → finite.get t.writable h ≡ nodes h
    drained done h r =
        kept_held nodes (finite.get t.writable) v (colours_stay nodes w held d.strides k.colours) done h
        (kept_stays nodes w held d.strides h (reached_keeps h r))

-- the same where only the counts and what is ready have changed
pub some_alike : (shaded : List Hash) (s t u : Store) → CopiesSome shaded s t → u.writable ≡ t.writable → u.archive ≡ t.archive
    → CopiesSome shaded s u
some_alike shaded s t u some p q = record {
  nodes = ap (λ (w : Nodes). merged w u.archive) p ∙ ap (λ (a : Nodes). merged t.writable a) q ∙ some.nodes;
  archive = q ∙ some.archive;
  kept = λ h form e. ap (λ (w : Nodes). finite.get w h) p ∙ some.kept h form e;
  only = λ h form e. some.only h form (ap (λ (w : Nodes). finite.get w h) (sym p) ∙ e);
}

-- what was copied, or written before, is what is left
pub rotated : (told : List Hash) (s t u v : Store) → CopiesSome told s t
    → ((h : Hash) → Reach (finite.get (nodes_of s)) told h → finite.get t.writable h ≡ finite.get (nodes_of s) h)
    → u.writable ≡ t.writable → u.archive ≡ t.archive → nodes_of v ≡ u.writable → v.writable ≡ finite.empty → Rotated told s v
rotated told s t u v some has p q swapped fresh = record {
  fewer = λ h form e.
      ap (λ (n : Nodes). finite.get n h) (sym after.nodes) ∙ swap_fewer u.writable u.archive h form (left h form e);
  reached = λ h r. ap (λ (n : Nodes). finite.get n h) (swapped ∙ p) ∙ has h r;
  written = λ h form e. elim (after.only h form (left h form e)) [
    | inl before ↦ inr before
    | inr new ↦ inl new.0
  ];
  fresh = fresh;
}
  where
    after : CopiesSome told s u
    after = some_alike told s t u some p q

    left : (h : Hash) (form : Bytes) → finite.get (nodes_of v) h ≡ Some form → finite.get u.writable h ≡ Some form
    left h form e = ap (λ (n : Nodes). finite.get n h) (sym swapped) ∙ e

-- what was written before is born in the epoch or, in a fit store, reached
pub only_born : (shaded : List Hash) (s v : Store) → IsFit shaded s → Rotated shaded s v → OnlyReachedOrBorn shaded s v
only_born shaded s v fit r h form e = elim (r.written h form e) [
  | inl reach ↦ inl reach
  | inr old ↦ elim (swap_only s.writable s.archive h form old) [
    | inl both ↦ inl (fit h (some_no_none (finite.get s.writable h) form old) (there_no_none (finite.get s.archive h) both))
    | inr born ↦ inr born
  ]
]

-- what a swap leaves of the epoch, the notes and the shelf's numbers, where nothing else changed them
pub swapped_rest : (s t u v : Store) → SameRest s t → SamePast t u → u.noted ≡ t.noted → v.epoch ≡ u.epoch + 1 → HasNoNewNotes u v
    → v.spare ≡ u.spare → AddsAtMostOne u.undone v.undone
    → (v.epoch ≡ s.epoch + 1) × HasNoNewNotes s v × (v.spare ≡ s.spare) × AddsAtMostOne s.undone v.undone
swapped_rest s t u v a b notes epoch fewer spare undone = (
  epoch ∙ ap (λ (n : ℕ). n + 1) (b.0 ∙ a.0.0),
  λ h has. subst (λ (ns : SetOf). IsTrue (set.contains ns h)) (notes ∙ a.2) (fewer h has),
  spare ∙ b.3 ∙ a.0.3,
  subst (λ (ns : List ℕ). AddsAtMostOne ns v.undone) (b.4 ∙ a.0.4) undone,
)

pub swapped_notes : (s t u v : Store) → SameRest s t → u.noted ≡ t.noted → KeepsNotes u v → KeepsNotes s v
swapped_notes s t u v a notes keeps h has held =
    keeps h (subst (λ (ns : SetOf). IsTrue (set.contains ns h)) (sym (notes ∙ a.2)) has) held

-- neither a clash nor a wrong hash comes, so it is a device or memory
pub why : {T : Type 0} (r : Result T StoreFault) (s s' : Store) → (r ≡ Err fault.Fault → Rose s.faults s'.faults) → IfErr r IsPlain
    → IfErr r (λ e. RefusedBy s e s')
why (Ok x) s s' rose plain = tt
why (Err fault.Fault) s s' rose plain = rose refl
why (Err fault.Memory) s s' rose plain = tt
why (Err (fault.Clash hash old new)) s s' rose plain = absurd plain
why (Err (fault.WrongHash hash found)) s s' rose plain = absurd plain

-- the roots are those for the floor behind the last rotation, and the targets stand behind them
pub begins : (b : Retention) (targets roots grey : List Hash) (last : ℕ) → b.last ≡ Some last → AreRootsFrom b (last + 1) roots
    → grey ≡ roots ++ targets → (h : Hash) → Contains grey h ↔ (IsRootFrom b (floor_behind b.last) h ⊎ Contains targets h)
begins b targets roots grey last is are all h = (
  λ has. ⊎_elim
      (λ root. inl (subst (λ (n : ℕ). IsRootFrom b n h) (sym floor) ((are.all h).0 root)))
      (λ target. inr target)
      (Contains-append_cases roots targets h (subst (λ (hs : List Hash). Contains hs h) all has)),
  λ named. subst (λ (hs : List Hash). Contains hs h) (sym all) (⊎_elim
      (λ root. Contains-append_left roots targets h ((are.all h).1 (subst (λ (n : ℕ). IsRootFrom b n h) floor root)))
      (λ target. Contains-append_right roots targets h target) named),
)
  where
    floor : floor_behind b.last ≡ last + 1
    floor = ap floor_behind is

-- the walk that is kept
pub walk_is : (o : Option Walk) (w : Walk) (turning : Bool) (told : List Hash) (slices : ℕ) (t : Turning) → o ≡ Some w
    → record { turning = turning; shaded = told; walk = unwrap_or o no_walk; slices = slices } ≡ t → t.walk ≡ w
walk_is o w turning told slices t is view = sym (ap (λ (x : Turning). x.walk) view) ∙ ap (λ (x : Option Walk). unwrap_or x no_walk) is

-- what a slice comes to
pub strode_both : (told : List Hash) (w x : Walk) (s : Store) → x ≡ w → IsWalking told x s → (a b : ℕ) (v : Walk) (t : Store)
    → Strode a b w s v t → CopiesSome told s t × IsWalking told v t
strode_both told w x s same k a b v t d =
    let at : IsWalking told w s = subst (λ (y : Walk). IsWalking told y s) same k in
    (strode_some told w s at a b v t d, strode_walks told w s at a b v t d)

-- and a drain and a swap
pub drained_rotated : (told : List Hash) (w v : Walk) (s t u x : Store) → IsWalking told w s → Drains w s v t → v.grey ≡ []
    → u.writable ≡ t.writable → u.archive ≡ t.archive → nodes_of x ≡ u.writable → x.writable ≡ finite.empty → Rotated told s x
drained_rotated told w v s t u x k d done p q swapped fresh =
    rotated told s t u x (strode_some told w s k d.taken d.copied v t d.strode)
    (drained told w s k d.taken d.copied v t d.strode done) p q swapped fresh

pub fit_after : {T E : Type 0} (told : List Hash) (s t : Store) (r : Result T E) → OnErr r (CopiesSome told s t) → IsFit told s
    → OnErr r (IsFit told t)
fit_after told s t (Ok x) some fit = tt
fit_after told s t (Err e) some fit = fit_on told s t fit some

pub first_err : {T E : Type 0} (r : Result T E) (P Q : Type 0) → OnErr r (P × Q) → OnErr r P
first_err (Ok x) P Q both = tt
first_err (Err e) P Q both = both.0

pub second_err : {T E : Type 0} (r : Result T E) (P Q : Type 0) → OnErr r (P × Q) → OnErr r Q
second_err (Ok x) P Q both = tt
second_err (Err e) P Q both = both.1

-- told once more
pub told_more : (told : List Hash) (h : Hash) (q : Hash) → Contains (told ++ h ∷ []) q ↔ (Contains told q ⊎ (q ≡ h))
told_more told h q = (
  λ c. ⊎_elim (λ old. inl old) (λ one. inr (in_one h q one)) (Contains-append_cases told (h ∷ []) q c),
  λ c. ⊎_elim (λ old. Contains-append_left told (h ∷ []) q old)
      (λ one. subst (Contains (told ++ h ∷ [])) (sym one) (Contains-push told h)) c,
)
