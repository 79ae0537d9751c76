-- The begin of a rotation and its swap keep a state sound: a swap takes nothing that a retained ledger reaches.
use Rattle.std.proofs.Common.{◌≡◌, ⊎_elim, ◌+◌, ◌<◌, ◌≤◌, ◌^◌, nat_le, ℕ, Bool, true, false, cond, List, [], ◌∷◌, ◌++◌}
use Rattle.std.proofs.Common.{Option, None, Some, is_some, Contains, filter, refl, sym, ap, ◌∙◌, subst, leb-true, IsSomeAnd}
use Rattle.std.specs.Map.{keys_of, values_of}
use Rattle.std.proofs.lemmas.Cmp.{nat_list_cmp_total}
use Rattle.std.specs.Cmp.{eq_by_cmp_equiv}
use Rattle.std.proofs.lemmas.List.Elements.{Contains-append_cases, Contains-append_left, Contains-append_right}
use Rattle.std.proofs.lemmas.Map.Entries.{option_filter, lookup-filter-values}
use Rattle.std.proofs.lemmas.Map.Keys.{IsDistinct-from_sorted}
use Rattle.std.proofs.lemmas.Map.Views.{Contains-keys_from_lookup}
use Rattle.ledger_spec.specs.Maps.{ForHash, hash_cmp, IsMap, get_in}
use Rattle.ledger_spec.specs.Bytes.{Bytes, Hash, Half}
use Rattle.ledger_spec.specs.Header.{seq_of}
use Rattle.ledger_spec.specs.Reach.{Reach, root}
use Rattle.ledger_spec.specs.Retaining.{listed_from}
use Rattle.ledger_spec.specs.Spots.{header_in}
use Rattle.ledger_spec.specs.Forms.{Held}
use Rattle.ledger_spec.proofs.shared.ReachLaws.{reach_joins}
use Rattle.ledger_spec.proofs.shared.Storing.{in_one}
use Rattle.ledger_machine.specs.declared.commands.BeginReply.{BeginReply}
use Rattle.ledger_machine.specs.declared.commands.BeginReply.TheVariants as begins
use Rattle.ledger_machine.specs.State.{State, form_in, retained, roots, bases}
use Rattle.ledger_machine.specs.Sound.{Sound}
use Rattle.ledger_machine.specs.Rotation.{after_begin, Swapped, begin_reply}
use Rattle.ledger_machine.specs.declared.commands.Command.TheVariants as command
use Rattle.ledger_machine.specs.declared.commands.Reply.{Reply}
use Rattle.ledger_machine.specs.declared.commands.Reply.TheVariants as says
use Rattle.ledger_machine.specs.Steps.{Step, Swaps}
use Rattle.ledger_machine.specs.declared.commands.SwapReply.TheVariants as swaps
use Rattle.ledger_laws.proofs.shared.SoundForms.{some_same, same_hash, in_head, in_tail, refused_none}
use Rattle.ledger_laws.proofs.SoundTables.{filter_rises, same_tables}
use Rattle.ledger_laws.proofs.Alike.{ledger_alike, header_in_alike}
use Rattle.ledger_laws.proofs.SoundKeeps.{keeps_sound, gives_same}
use Rattle.ledger_laws.proofs.shared.SoundSteps.{outcome_cases}

-- a key of an entry that passes a test was a key before
filtered_key : {X : Type 0} (test : Hash × X → Bool) (m : ForHash X) (q : Hash) → Contains (keys_of (filter test m)) q
    → Contains (keys_of m) q
filtered_key test [] q c = c
filtered_key {X} test (e ∷ m) q c = by (test e) (filtered_key test m q) c
  where
    by : (b : Bool) → (Contains (keys_of (filter test m)) q → Contains (keys_of m) q)
        → Contains (keys_of (cond b (e ∷ filter test m) (filter test m))) q → Contains (keys_of (e ∷ m)) q
    by true rest c =
        ⊎_elim (λ first. subst (Contains (keys_of (e ∷ m))) (sym (in_one e.0 q first)) (in_head e.0 (keys_of m)))
        (λ later. in_tail e.0 q (keys_of m) (rest later)) (Contains-append_cases (e.0 ∷ []) (keys_of (filter test m)) q c)
    by false rest c = in_tail e.0 q (keys_of m) (rest c)

-- what passes a test for its value passes it
passes : (floor seq : ℕ) (o : Option ℕ) → option_filter (nat_le floor) o ≡ Some seq → (floor ≤ seq) × (o ≡ Some seq)
passes floor seq None e = cc
passes floor seq (Some n) e = by (nat_le floor n) refl e
  where
    by : (b : Bool) → nat_le floor n ≡ b → cond b (Some n) None ≡ Some seq → (floor ≤ seq) × (Some n ≡ Some seq)
    by true is e = (subst (λ x. floor ≤ x) (some_same e) (leb-true floor n is), e)
    by false is e = cc

-- a ledger that is still listed was listed, and isn't below the floor
still_listed : (floor : ℕ) (listed : ForHash ℕ) (t : Hash) (seq : ℕ) → IsMap hash_cmp listed
    → get_in hash_cmp (listed_from floor listed) t ≡ Some seq → (floor ≤ seq) × (get_in hash_cmp listed t ≡ Some seq)
still_listed floor listed t seq sorted e =
    passes floor seq (get_in hash_cmp listed t)
    (sym (lookup-filter-values (eq_by_cmp_equiv nat_list_cmp_total) (nat_le floor) t listed
    (IsDistinct-from_sorted hash_cmp (keys_of listed) sorted)) ∙ e)

-- each answer to `begin`
pub begin_sound : (half : Half) (s : State) (r : BeginReply) → Sound half s → Sound half (after_begin s r)
begin_sound half s (begins.Begun v floor) sound = record {
  forms = sound.forms;
  tables = record {
    listed = filter_rises hash_cmp (λ e. nat_le floor e.1) s.listed sound.tables.listed;
    wanted = sound.tables.wanted;
    charges = sound.tables.charges;
    views = sound.tables.views;
    sessions = sound.tables.sessions;
    edits = sound.tables.edits;
  };
  retained_whole = λ t c. sound.retained_whole t (was t c);
  listed_seq = λ t seq e.
      let still = still_listed floor s.listed t seq sound.tables.listed e in
      (still.0, (sound.listed_seq t seq still.1).1);
  base_seq = sound.base_seq;
}
  where
    was : (t : Hash) → Contains (keys_of (listed_from floor s.listed) ++ values_of s.views ++ bases s) t → Contains (retained s) t
    was t c =
        ⊎_elim
        (λ front. Contains-append_left (keys_of s.listed ++ values_of s.views) (bases s) t
        (⊎_elim
        (λ listed. Contains-append_left (keys_of s.listed) (values_of s.views) t
        (filtered_key (λ e. nat_le floor e.1) s.listed t listed))
        (λ viewed. Contains-append_right (keys_of s.listed) (values_of s.views) t viewed)
        (Contains-append_cases (keys_of (listed_from floor s.listed)) (values_of s.views) t front)))
        (λ edited. Contains-append_right (keys_of s.listed ++ values_of s.views) (bases s) t edited)
        (Contains-append_cases (keys_of (listed_from floor s.listed) ++ values_of s.views) (bases s) t c)
begin_sound half s begins.Busy sound = sound
begin_sound half s begins.NotDue sound = sound

-- what one of the roots reaches stays at a swap
pub root_stays : (s s' : State) (t : Hash) → Swapped s s' → Contains (roots s) t → (h : Hash) → Reach (form_in s) (t ∷ []) h
    → form_in s' h ≡ form_in s h
root_stays s s' t w among h reached =
    w.reached h (reach_joins (λ r c stored. root (subst (Contains (roots s)) (sym (in_one t r c)) among) stored) reached)

module _ (half : Half) (s s' : State) (w : Swapped s s') (sound : Sound half s) where
  -- a retained ledger is reached by the roots
  stays : (t : Hash) → Contains (retained s) t → (h : Hash) → Reach (form_in s) (t ∷ []) h → form_in s' h ≡ form_in s h
  stays t kept = root_stays s s' t w (Contains-append_left (retained s) (keys_of s.wanted) t kept)

  -- a swap changes no table
  still_retained : (t : Hash) → Contains (retained s') t → Contains (retained s) t
  still_retained t c = subst (λ (ts : List Hash). Contains ts t) (ap retained w.rest) c

  -- what holds of a retained ledger's header still holds
  header_stays : (t : Hash) (P : Bytes → Type 0) → Contains (retained s) t → IsSomeAnd (header_in (form_in s) t) P
      → IsSomeAnd (header_in (form_in s') t) P
  header_stays t P kept some =
      header_in_alike half (form_in s) (form_in s') t w.fewer (stays t kept) P (sound.retained_whole t kept).whole some

  -- a listed ledger is retained
  listed_kept : (t : Hash) (seq : ℕ) → get_in hash_cmp s.listed t ≡ Some seq → Contains (retained s) t
  listed_kept t seq e =
      Contains-append_left (keys_of s.listed ++ values_of s.views) (bases s) t
      (Contains-append_left (keys_of s.listed) (values_of s.views) t
      (Contains-keys_from_lookup same_hash t s.listed (ap is_some e)))

  -- a listed ledger keeps its header, and the floor stays
  listed_stays : (t : Hash) (seq : ℕ) → get_in hash_cmp s'.listed t ≡ Some seq
      → (s'.floor ≤ seq) × IsSomeAnd (header_in (form_in s') t) (λ h. seq_of h ≡ seq)
  listed_stays t seq e =
      let was : get_in hash_cmp s.listed t ≡ Some seq =
      subst (λ (m : ForHash ℕ). get_in hash_cmp m t ≡ Some seq) (ap (λ (x : State). x.listed) w.rest) e in
      let fits = sound.listed_seq t seq was in (
        subst (λ (n : ℕ). n ≤ seq) (sym (ap (λ (x : State). x.floor) w.rest)) fits.0,
        header_stays t (λ h. seq_of h ≡ seq) (listed_kept t seq was) fits.1,
      )

  -- no form comes, no table changes, and each retained ledger has all that it reaches
  pub swap_sound : Sound half s'
  swap_sound = record {
    forms = λ h form e. sound.forms h form (w.fewer h form e);
    tables = same_tables half s s' (ap (λ (x : State). x.listed) w.rest) (ap (λ (x : State). x.wanted) w.rest)
        (ap (λ (x : State). x.views) w.rest) (ap (λ (x : State). x.sessions) w.rest) sound.tables;
    retained_whole = λ t c.
        let kept : Contains (retained s) t = still_retained t c in
        ledger_alike half (form_in s) (form_in s') t w.fewer (stays t kept) (sound.retained_whole t kept);
    listed_seq = listed_stays;
    base_seq = λ t c.
        let base : Contains (bases s) t = subst (λ (ts : List Hash). Contains ts t) (ap bases w.rest) c in
        header_stays t (λ h. seq_of h + 1 < 2 ^ 32) (Contains-append_right (keys_of s.listed ++ values_of s.views) (bases s) t base)
        (sound.base_seq t base);
  }

-- a step of `begin`
pub begin_step_sound : (half : Half) (s s' : State) (a : ℕ) (reply : Reply) (used : List Held) → Sound half s
    → Step half s a command.Begin reply used s' → Sound half s'
begin_step_sound half s s' a reply used sound step =
    ⊎_elim (λ r. keeps_sound half s s' sound (refused_none half s a command.Begin s' refl r))
    (λ g. gives_same half (after_begin s (begin_reply s)) s' (says.Begin (begin_reply s)) reply (begin_sound half s (begin_reply s) sound)
    g.0)
    (outcome_cases half s a command.Begin reply used s' step.outcome)

-- a step of `swap`
pub swap_step_sound : (half : Half) (s s' : State) (a : ℕ) (reply : Reply) (used : List Held) → Sound half s
    → Step half s a command.Swap reply used s' → Sound half s'
swap_step_sound half s s' a reply used sound step =
    ⊎_elim (λ r. keeps_sound half s s' sound (refused_none half s a command.Swap s' refl r)) (λ g. at s.turning g)
    (outcome_cases half s a command.Swap reply used s' step.outcome)
  where
    at : (o : Option ℕ) → Swaps s o reply s' → Sound half s'
    at None g = gives_same half s s' (says.Swap swaps.Idle) reply sound g
    at (Some v) g = swap_sound half s s' g.1 sound
