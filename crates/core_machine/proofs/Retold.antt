-- What a section leaves that tells the rotation first, and then changes the tables.
use Rattle.std.proofs.Common.{◌≡◌, ◌⊎◌, inl, inr, ⊎_elim, ℕ, List, ◌∷◌, [], Contains, IsSome, Option, None, Some, Result, Ok, Err}
use Rattle.std.proofs.Common.{OnOk, OnErr, Ordering, Less, Equal, Greater, refl, sym, ap, ◌∙◌, subst}
use Rattle.std.specs.Map.{keys_of}
use Rattle.std.specs.Ordering.{match_ordering}
use Rattle.std.proofs.lemmas.Map.Lookups.{exact_bytes}
use Rattle.ledger_spec.specs.Maps.{ForHash, hash_cmp, get_in, insert_in}
use Rattle.ledger_spec.specs.Acquiring.{Acquiring, acquiring}
use Rattle.ledger_spec.proofs.shared.Storing.{in_one}
use Rattle.missing_walk.specs.declared.Found.{Found}
use Rattle.ledger_spec.specs.declared.replies.CheckReply.{CheckReply}
use Rattle.ledger_spec.specs.declared.replies.CheckReply.TheVariants as check
use Rattle.ledger_laws.proofs.shared.SoundForms.{in_head, in_tail, in_nothing}
use Rattle.ledger_spec.specs.Bytes.{Hash}
use Rattle.ledger_machine.specs.declared.commands.WantReply.TheVariants as want
use Rattle.ledger_machine.specs.State.{State}
use Rattle.ledger_machine.specs.Want.{after_want}
use Rattle.ledger_machine.specs.Check.{after_check}
use Rattle.ledger_machine.specs.Steps.{IsAfter}
use Rattle.core_machine.specs.Desks.{Desk}
use Rattle.ledger_machine.specs.Rotation.{Tells}
use Rattle.core_machine.specs.Telling.{Hears}
use Rattle.core_machine.specs.Wanting.{judged_by, settled, told_at}
use Rattle.ledger_laws.proofs.shared.Roots.{listed_among, wanted_among, found_key}

-- but for what a rotation was told
pub after_any : (t s' : State) (z : List Hash) → s' ≡ record t { shaded = z } → IsAfter t s'
after_any t s' z e = subst (λ (x : State). x ≡ record t { shaded = x.shaded }) (sym e) refl

-- a change of the tables alone
after_then : (f : State → State) (s m s' : State) → IsAfter s m
    → ((z : List Hash) → f (record s { shaded = z }) ≡ record (f s) { shaded = z }) → s' ≡ f m → IsAfter (f s) s'
after_then f s m s' after law e = after_any (f s) s' m.shaded (e ∙ ap f after ∙ law m.shaded)

pub opened_on : {X E : Type 0} (r : Result X E) (s m s' : State) (t : Hash) (seq : ℕ) → IsAfter s m
    → OnOk r (s' ≡ after_want m t seq want.Opened) → OnOk r (IsAfter (after_want s t seq want.Opened) s')
opened_on (Ok x) s m s' t seq after e = after_then (λ y. after_want y t seq want.Opened) s m s' after (λ z. refl) e
opened_on (Err e) s m s' t seq after ok = tt

pub listed_on : {X E : Type 0} (r : Result X E) (s m s' : State) (t : Hash) (seq : ℕ) → IsAfter s m
    → OnOk r (s' ≡ after_check m t seq check.Complete) → OnOk r (IsAfter (after_check s t seq check.Complete) s')
listed_on (Ok x) s m s' t seq after e = after_then (λ y. after_check y t seq check.Complete) s m s' after (λ z. refl) e
listed_on (Err e) s m s' t seq after ok = tt

pub same_on : {X E : Type 0} (r : Result X E) (s : State) (m d : Desk) → IsAfter s m.state → OnErr r (d ≡ m) → OnErr r (IsAfter s d.state)
same_on (Ok x) s m d after e = tt
same_on (Err why) s m d after e = subst (λ (y : Desk). IsAfter s y.state) (sym e) after

pub hears_same : (a more b c : List Hash) → Hears a more b → c ≡ b → Hears a more c
hears_same a more b c hears same = subst (λ (x : List Hash). Hears a more x) (sym same) hears

pub told_same : {X E : Type 0} (r : Result X E) (o : Option ℕ) (b c : List Hash) (h : Hash) → (IsSome o → Contains b h) → c ≡ b
    → OnOk r (IsSome o → Contains c h)
told_same (Ok x) o b c h told same = λ some. subst (λ (y : List Hash). Contains y h) (sym same) (told some)
told_same (Err e) o b c h told same = tt

-- the key that was put is among the keys
pub key_in : {X : Type 0} (m : ForHash X) (t : Hash) (seq : X) → Contains (keys_of (insert_in hash_cmp m t seq)) t
key_in [] t seq = in_head t []
key_in {X} (e ∷ m) t seq = at (hash_cmp t e.0) refl (key_in m t seq)
  where
    at : (o : Ordering) → hash_cmp t e.0 ≡ o → Contains (keys_of (insert_in hash_cmp m t seq)) t
        → Contains (keys_of (match_ordering o ((t, seq) ∷ e ∷ m) ((e.0, seq) ∷ m) (e ∷ insert_in hash_cmp m t seq))) t
    at Less is rest = in_head t (keys_of (e ∷ m))
    at Equal is rest = subst (λ (k : Hash). Contains (k ∷ keys_of m) t) (exact_bytes t e.0 is) (in_head t (keys_of m))
    at Greater is rest = in_tail e.0 t (keys_of (insert_in hash_cmp m t seq)) rest

none_told : (s s' : State) → Hears s.shaded [] s'.shaded → Tells s s' []
none_told s s' hears = record {
  stays = hears.stays;
  only = λ h c. ⊎_elim (λ old. inl old) (λ no. absurd (in_nothing no)) (hears.only h c);
}

root_told : (s s' : State) (t : Hash) → (Contains (keys_of s'.listed) t ⊎ Contains (keys_of s'.wanted) t) → Hears s.shaded
    (t ∷ []) s'.shaded
    → Tells s s' []
root_told s s' t among hears = record {
  stays = hears.stays;
  only = λ h c. ⊎_elim (λ old. inl old)
      (λ one. let is : h ≡ t = in_one t h one in
      inr (inl (⊎_elim (λ listed. listed_among s' h (subst (Contains (keys_of s'.listed)) (sym is) listed))
      (λ open_. wanted_among s' h (subst (Contains (keys_of s'.wanted)) (sym is) open_)) among))) (hears.only h c);
}

-- a want tells of the ledger that it opens, which is wanted then
pub opened_tells : (s s' : State) (t : Hash) (seq : ℕ) → IsAfter (after_want s t seq want.Opened) s' → Hears s.shaded (t ∷ []) s'.shaded
    → Tells s s' []
opened_tells s s' t seq after hears =
    root_told s s' t
    (inr (subst (λ (m : ForHash Acquiring). Contains (keys_of m) t) (sym (ap (λ (x : State). x.wanted) after))
    (key_in s.wanted t (acquiring t seq)))) hears

pub own_told : (s s' : State) (own : List Hash) → Hears s.shaded own s'.shaded → Tells s s' own
own_told s s' own hears = record {
  stays = hears.stays;
  only = λ h c. ⊎_elim (λ old. inl old) (λ more. inr (inr more)) (hears.only h c);
}

-- a check tells of a ledger that it lists
pub settled_tells : (s s1 s' : State) (t : Hash) (seq : ℕ) (r : CheckReply) → Hears s.shaded (told_at t r) s'.shaded
    → IsAfter (settled s1 t seq r) s' → Tells s s' []
settled_tells s s1 s' t seq check.Complete hears after =
    root_told s s' t
    (inl (subst (λ (m : ForHash ℕ). Contains (keys_of m) t) (sym (ap (λ (x : State). x.listed) after)) (key_in s1.listed t seq))) hears
settled_tells s s1 s' t seq (check.Need p places) hears after = none_told s s' hears
settled_tells s s1 s' t seq (check.Waiting n) hears after = none_told s s' hears
settled_tells s s1 s' t seq check.NoPeer hears after = none_told s s' hears
settled_tells s s1 s' t seq (check.SeqDiffers asked found) hears after = none_told s s' hears
settled_tells s s1 s' t seq check.ZeroState hears after = none_told s s' hears
settled_tells s s1 s' t seq (check.BelowFloor floor) hears after = none_told s s' hears
settled_tells s s1 s' t seq (check.Malformed place fault) hears after = none_told s s' hears
settled_tells s s1 s' t seq check.NotOpen hears after = none_told s s' hears

-- or of one that is open still
some_open : (o : Option Acquiring) (floor : ℕ) (found : Found) → check.Complete ≡ judged_by o floor found → (a : Acquiring) × (o ≡ Some a)
some_open None floor found e = cc
some_open (Some a) floor found e = (a, refl)

pub unsettled_tells : (s s1 s2 : State) (t : Hash) (r : CheckReply) (floor : ℕ) (found : Found) → r ≡ judged_by
    (get_in hash_cmp s1.wanted t) floor found
    → r ≡ check.Complete → Hears s.shaded (told_at t r) s2.shaded → IsAfter s1 s2 → Tells s s2 []
unsettled_tells s s1 s2 t r floor found is whole hears after =
    let some = some_open (get_in hash_cmp s1.wanted t) floor found (sym whole ∙ is) in
    root_told s s2 t
    (inr (subst (λ (m : ForHash Acquiring). Contains (keys_of m) t) (sym (ap (λ (x : State). x.wanted) after))
    (found_key s1.wanted t some.0 some.1)))
    (subst (λ (x : CheckReply). Hears s.shaded (told_at t x) s2.shaded) whole hears)
