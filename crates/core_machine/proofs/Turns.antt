-- What the machine keeps of its book, its rotator and its store, as these change.
use Rattle.std.proofs.Common.{◌≡◌, ◌≢◌, ◌⊎◌, ◌↔◌, inl, inr, ⊎_elim, ℕ, Bool, true, false, not, ◌&&◌, if◌then◌else◌, IsTrue, IsSome, is_some}
use Rattle.std.proofs.Common.{List, [], ◌∷◌, Option, None, Some, Contains, Result, Ok, Err, OnOk, OnErr, IfOk, IfErr, IfSome, length, ◌≤◌}
use Rattle.std.proofs.Common.{refl}
use Rattle.std.proofs.Common.{sym, ap, ◌∙◌, subst, arith}
use Rattle.std.specs.Option.{option_or}
use Rattle.std.specs.FinMap as finite
use Rattle.std.specs.FinSet as set
use Rattle.std.specs.FinSet.{contains-difference, contains-empty, same_set}
use Rattle.std.specs.FinMap.{nat_cmp-IsAntisymmetric, slice_cmp-IsAntisymmetric}
use Rattle.std.specs.Ordering.{eq_by_cmp}
use Rattle.std.specs.Cmp.Lexicographic.{nat_list_cmp_total}
use Rattle.std.proofs.lemmas.Bool.{false≢true}
use Rattle.ledger_spec.specs.Bytes.{Bytes, Hash, Half, Lookup, Nodes}
use Rattle.ledger_spec.specs.Maps.{ForHash, ForActor, hashes_in, hash_cmp}
use Rattle.ledger_spec.specs.Reach.{Reach, Stored, root, kid}
use Rattle.ledger_spec.specs.Retaining.{Retention, none_retained, due, after_listing, after_finish}
use Rattle.ledger_spec.specs.Acquiring.{Acquiring}
use Rattle.ledger_spec.proofs.shared.ReachLaws.{Grows, reach_grows}
use Rattle.ledger_spec.proofs.shared.Storing.{in_one}
use Rattle.rotating_store.specs.Stores.{Store, merged, nodes_of, born_of, Counted, with_pair}
use Rattle.rotating_store.specs.Puts.{Puts, MayStore, IsPlain}
use Rattle.rotating_store.specs.declared.outcome.Put.{Put}
use Rattle.rotating_store.specs.declared.outcome.Put.TheVariants as put
use Rattle.rotating_store.specs.declared.outcome.StoreFault.{StoreFault}
use Rattle.rotating_store.specs.declared.outcome.StoreFault.TheVariants as fault
use Rattle.rotating_store.proofs.shared.Merging.{get-merged, merged-insert, contains_hashes}
use Rattle.node_offer.specs.declared.fault.OfferFault.{OfferFault}
use Rattle.node_offer.specs.declared.fault.OfferFault.TheVariants as offer
use Rattle.node_offer.specs.Stored as store
use Rattle.acquire_core.specs.Answers.{Answers}
use Rattle.ledger_spec.specs.Offers.{Clash}
use Rattle.rotating_store.specs.Reading.{WasRead}
use Rattle.copy_walk.specs.Walks.{Walk}
use Rattle.copy_walk.specs.Walks as walks
use Rattle.copy_walk.proofs.shared.Lists.{shaded_stays, is_shaded, shaded_from}
use Rattle.copy_walk.proofs.shared.Striding.{one_form, colours_shaded}
use Rattle.online_rotate.proofs.shared.Rotating.{walking_alike, fit_on}
use Rattle.std.proofs.lemmas.List.{append-nil}
use Rattle.std.proofs.lemmas.List.Elements.{Contains-append_left}
use Rattle.online_rotate.specs.declared.rotator.Begun.{Begun}
use Rattle.online_rotate.specs.declared.rotator.Begun.TheVariants as begun
use Rattle.online_rotate.specs.Copying.{IsFit, IsWalking, CopiesSome, Rotated, OnlyReachedOrBorn, AfterRotation, AfterFit, RefusedBy}
use Rattle.copy_walk.specs.declared.walk.Left.{Left}
use Rattle.online_rotate.specs.Rotators.{SlicesBy, slices_after}
use Rattle.online_rotate.specs.Rotators.{Turning, no_walk, at_rest, InStep, begun_by, AfterBegin, Shades, Ends, GoesOn, AfterFinish}
use Rattle.ledger_laws.proofs.shared.SoundForms.{new_or_old, get_more, same_hash, in_nothing, in_head, in_tail}
use Rattle.ledger_machine.specs.State.{State, form_in, opening}
use Rattle.ledger_machine.specs.Rotation.{Tells}
use Rattle.core_machine.specs.Desks.{Desk, OnlyReads, over, state_of}
use Rattle.core_machine.specs.Heeds.{Heeds}
use Rattle.core_machine.specs.Telling.{KeepsTurning, Hears, SwapsTold, AfterSwap, swap_told}
use Rattle.core_machine.specs.Desks as Desks
use Rattle.node_backend.specs.declared.back.BackFault.TheVariants as back
use Rattle.run_io.specs.Bytes.{Rose}

-- what is reached from fewer hashes in a smaller store is reached
pub reach_wider : {m n : Lookup} {few more : List Hash} {h : Hash} → Grows m n → ((r : Hash) → Contains few r → Contains more r)
    → Reach m few h → Reach n more h
reach_wider {h = h} up into (root named stored) = root (into h named) (stored.0, up h stored.0 stored.1)
reach_wider {h = h} up into (kid reached form named stored) =
    kid (reach_wider up into reached) (up _ _ form) named (stored.0, up h stored.0 stored.1)

pub still : (m : Lookup) → Grows m m
still m h form e = e

-- a section that tells nothing
pub quiet : (s s' : State) (own : List Hash) → s'.shaded ≡ s.shaded → Tells s s' own
quiet s s' own same = record {
  stays = λ h c. subst (λ (hs : List Hash). Contains hs h) (sym same) c;
  only = λ h c. inl (subst (λ (hs : List Hash). Contains hs h) same c);
}

pub quiet_read : (told : Bool) (d d' : Desk) (own : List Hash) → OnlyReads told d d' → Tells d.state d'.state own
quiet_read told d d' own read = quiet d.state d'.state own (ap (λ (s : State). s.shaded) read.tables)

pub hears_none : (told more : List Hash) → Hears told more told
hears_none told more = record { stays = λ h c. c; only = λ h c. inl c }

pub hears_on : (a more b c : List Hash) (h : Hash) → Hears a more b → Hears b (h ∷ []) c → Contains more h → Hears a more c
hears_on a more b c h first next among = record {
  stays = λ q i. next.stays q (first.stays q i);
  only = λ q i. ⊎_elim (λ old. first.only q old) (λ one. inr (subst (Contains more) (sym (in_one h q one)) among)) (next.only q i);
}

some_none : {X : Type 0} (o : Option X) (x : X) → o ≡ Some x → o ≢ None
some_none None x e n = cc
some_none (Some y) x e n = cc

-- what was stored and written stays, where a form is put that wasn't stored
grown_pair : (st : Store) (h : Hash) (form : Bytes) → finite.get (nodes_of st) h ≡ None
    → Grows (finite.get (nodes_of st)) (finite.get (nodes_of (with_pair st h form)))
grown_pair st h form none q f e =
    ap (λ (n : Nodes). finite.get n q) (merged-insert st.writable st.archive h form) ∙ at (eq_by_cmp hash_cmp q h) refl
  where
    at : (b : Bool) → eq_by_cmp hash_cmp q h ≡ b → finite.get (finite.insert (nodes_of st) h form) q ≡ Some f
    at true same =
        absurd (some_none (finite.get (nodes_of st) q) f e
        (ap (finite.get (nodes_of st)) (same_hash q h same) ∙ none))
    at false other = get_more (nodes_of st) h form q false other ∙ e

unwritten : (st : Store) (h : Hash) → finite.get (nodes_of st) h ≡ None → finite.get st.writable h ≡ None
unwritten st h none = at (finite.get st.writable h) refl (sym (get-merged st.writable st.archive h) ∙ none)
  where
    at : (o : Option Bytes) → finite.get st.writable h ≡ o → option_or o (finite.get st.archive h) ≡ None → finite.get st.writable h ≡ None
    at None e n = e
    at (Some x) e n = cc

written_pair : (st : Store) (h : Hash) (form : Bytes) → finite.get (nodes_of st) h ≡ None
    → Grows (finite.get st.writable) (finite.get (finite.insert st.writable h form))
written_pair st h form none q f e = at (eq_by_cmp hash_cmp q h) refl
  where
    at : (b : Bool) → eq_by_cmp hash_cmp q h ≡ b → finite.get (finite.insert st.writable h form) q ≡ Some f
    at true same =
        absurd (some_none (finite.get st.writable q) f e (ap (finite.get st.writable) (same_hash q h same) ∙ unwritten st h none))
    at false other = get_more st.writable h form q false other ∙ e

-- a fit store in which a form is stored that it didn't hold
module _ (shaded : List Hash) (st : Store) (h : Hash) (form : Bytes) (none : finite.get (nodes_of st) h ≡ None)
    (fit : IsFit shaded st) where
  grown : Grows (finite.get (nodes_of st)) (finite.get (nodes_of (with_pair st h form)))
  grown q f e =
      ap (λ (n : Nodes). finite.get n q) (merged-insert st.writable st.archive h form) ∙ at (eq_by_cmp hash_cmp q h) refl
    where
      at : (b : Bool) → eq_by_cmp hash_cmp q h ≡ b → finite.get (finite.insert (nodes_of st) h form) q ≡ Some f
      at true same =
          absurd (some_none (finite.get (nodes_of st) q) f e
          (ap (finite.get (nodes_of st)) (same_hash q h same) ∙ none))
      at false other = get_more (nodes_of st) h form q false other ∙ e

  -- what neither backend held the archive didn't
  unarchived : finite.get st.archive h ≡ None
  unarchived = at (finite.get st.writable h) (sym (get-merged st.writable st.archive h) ∙ none)
    where
      at : (o : Option Bytes) → option_or o (finite.get st.archive h) ≡ None → finite.get st.archive h ≡ None
      at None e = e
      at (Some x) e = cc

  fit_pair : IsFit shaded (with_pair st h form)
  fit_pair q written old = at (finite.get st.writable q) refl
    where
      now : (o : Option Bytes) → finite.get (finite.insert st.writable h form) q ≡ o → finite.get st.writable q ≡ None
          → Reach (finite.get (nodes_of (with_pair st h form))) shaded q
      now None e before = absurd (written e)
      now (Some f) e before = ⊎_elim
          (λ was. absurd (some_none (finite.get st.writable q) f was before))
          (λ new. absurd (old (ap (finite.get st.archive) new.0 ∙ unarchived)))
          (new_or_old st.writable h form q f e)

      at : (o : Option Bytes) → finite.get st.writable q ≡ o → Reach (finite.get (nodes_of (with_pair st h form))) shaded q
      at None e = now (finite.get (finite.insert st.writable h form) q) refl e
      at (Some f) e = reach_wider grown (λ r c. c) (fit q (some_none (finite.get st.writable q) f e) old)

module _ (half : Half) (shaded : List Hash) where
  fit_form : (st : Store) (form : Bytes) → IsFit shaded st → IsFit shaded (store.with_form half st form)
  fit_form st form fit = at (finite.get (nodes_of st) (half form)) refl
    where
      at : (o : Option Bytes) → finite.get (nodes_of st) (half form) ≡ o
          → IsFit shaded (if is_some o then st else with_pair st (half form) form)
      at None e = fit_pair shaded st (half form) form e fit
      at (Some old) e = fit

  fit_forms : (st : Store) (forms : List Bytes) → IsFit shaded st → IsFit shaded (store.with_forms half st forms)
  fit_forms st [] fit = fit
  fit_forms st (form ∷ forms) fit = fit_forms (store.with_form half st form) forms (fit_form st form fit)

-- but for the counts
fit_counted : (shaded : List Hash) (t s : Store) → Counted t s → IsFit shaded t → IsFit shaded s
fit_counted shaded t s e fit = subst (IsFit shaded) (sym e) fit

-- ---- the walk
-- where nothing was told and nothing is walked
no_walking : (st : Store) → IsWalking [] no_walk st
no_walking st = record {
  colours = record {
    copied = λ h c. absurd (in_nothing c);
    named = λ h k form c is names stored. absurd (in_nothing c);
  };
  told = λ h c stored. absurd (in_nothing c);
  kept = λ h c stored. absurd (in_nothing c);
}

pub walking_counted : (shaded : List Hash) (w : Walk) (t s : Store) → Counted t s → IsWalking shaded w t → IsWalking shaded w s
walking_counted shaded w t s e k =
    subst (IsWalking shaded w) (sym e) (record { colours = k.colours; told = k.told; kept = k.kept })

-- More is stored, and written: each hash that is new is shaded, and reached from what was told.
pub record Adds (shaded : List Hash) (w : Walk) (s s' : Store) : Type 0 where
  pub grows : Grows (finite.get (nodes_of s)) (finite.get (nodes_of s'))
  pub writes : Grows (finite.get s.writable) (finite.get s'.writable)
  pub new : (h : Hash) (form : Bytes) → finite.get (nodes_of s') h ≡ Some form → (finite.get (nodes_of s) h ≡ Some form)
      ⊎ (Contains (walks.shaded w) h × Reach (finite.get (nodes_of s')) shaded h)

pub walking_adds : (shaded : List Hash) (w : Walk) (s s' : Store) → Adds shaded w s s' → IsWalking shaded w s → IsWalking shaded w s'
walking_adds shaded w s s' a k = record {
  colours = record {
    copied = λ h c. let was = k.colours.copied h c in (was.0, a.grows h was.0 was.1, a.writes h was.0 was.2);
    named = λ h q form c is names stored.
        let was = k.colours.copied h c in
        let same : was.0 ≡ form = one_form (finite.get (nodes_of s') h) was.0 form (a.grows h was.0 was.1) is in
        ⊎_elim (λ old. k.colours.named h q form c (was.1 ∙ ap Some same) names (stored.0, old)) (λ new. new.0) (a.new q stored.0 stored.1);
  };
  told = λ h c stored. ⊎_elim (λ old. k.told h c (stored.0, old)) (λ new. new.0) (a.new h stored.0 stored.1);
  kept = λ h c stored. ⊎_elim (λ old. reach_grows a.grows (k.kept h c (stored.0, old))) (λ new. new.1) (a.new h stored.0 stored.1);
}

-- a walk that begins at all that was told
begun_walking : (shaded : List Hash) (w : Walk) (st : Store) → w ≡ record { grey = shaded; black = [] } → IsWalking shaded w st
begun_walking shaded w st is = subst (λ (x : Walk). IsWalking shaded x st) (sym is) (record {
  colours = record {
    copied = λ h c. absurd (in_nothing c);
    named = λ h k form c is names stored. absurd (in_nothing c);
  };
  told = λ h c stored. Contains-append_left shaded [] h c;
  kept = λ h c stored. root (subst (λ (hs : List Hash). Contains hs h) (append-nil shaded) c) stored;
})

-- one form more, whose hash was told and is shaded
adds_pair : (shaded : List Hash) (w : Walk) (st : Store) (h : Hash) (form : Bytes) → finite.get (nodes_of st) h ≡ None
    → Contains shaded h × Contains (walks.shaded w) h → Adds shaded w st (with_pair st h form)
adds_pair shaded w st h form none has = record {
  grows = grown_pair st h form none;
  writes = written_pair st h form none;
  new = λ q f e. ⊎_elim (λ old. inl old)
      (λ new. inr (
        subst (Contains (walks.shaded w)) (sym new.0) has.1,
        root (subst (Contains shaded) (sym new.0) has.0) (f, e),
      ))
      (new_or_old (nodes_of st) h form q f (ap (λ (n : Nodes). finite.get n q) (sym (merged-insert st.writable st.archive h form)) ∙ e));
}

-- the walk takes one hash more: one that is told too, or isn't stored yet
walking_shaded : (shaded shaded' : List Hash) (w w' : Walk) (st : Store) (h : Hash)
    → ((q : Hash) → Contains shaded' q ↔ (Contains shaded q ⊎ (q ≡ h))) → walks.Shades w h w' → IsWalking shaded w st
    → IsWalking shaded' w' st
walking_shaded shaded shaded' w w' st h told s k = record {
  colours = colours_shaded (finite.get (nodes_of st)) w (finite.get st.writable) h w' s k.colours;
  told = λ q c stored. ⊎_elim (λ old. shaded_stays w h w' s q (k.told q old stored))
      (λ one. subst (Contains (walks.shaded w')) (sym one) (is_shaded w h w' s)) ((told q).0 c);
  kept = λ q c stored. ⊎_elim
      (λ old. reach_wider (still (finite.get (nodes_of st))) (λ p d. (told p).1 (inl d)) (k.kept q old stored))
      (λ one. root ((told q).1 (inr one)) stored) (shaded_from w h w' s q c);
}

-- nothing was told and nothing is retained, over a store whose archive is empty
pub new_keeps : (tells : Bool) (interval : ℕ) (b : Retention) (r : Turning) (st : Store) → b ≡ none_retained interval
    → r ≡ at_rest → (IsTrue tells → st.archive ≡ finite.empty) → KeepsTurning tells b r st
new_keeps tells interval b r st is off new = record {
  pins = ap (λ (x : Retention). x.pins) is;
  step = ap (λ (x : Turning). x.turning) off ∙ sym (ap (λ (x : Retention). is_some x.turning) is);
  idle = λ e. ap (λ (x : Turning). x.shaded) off;
  still = λ e. ap (λ (x : Turning). x.walk) off;
  walks = λ t. subst (λ (x : Turning). IsWalking x.shaded x.walk st) (sym off) (no_walking st);
  fit = λ t q written old. absurd (old (ap (λ (m : Nodes). finite.get m q) (new t) ∙ finite.get-empty hash_cmp q));
}

pub new_state : (st : Store) (interval : ℕ) (wanted : ForHash Acquiring) (views : ForActor Hash) (b : Retention) (r : Turning)
    → wanted ≡ [] → views ≡ [] → b ≡ none_retained interval → r ≡ at_rest
    → state_of st wanted views b r ≡ over st (opening finite.empty interval)
new_state st interval wanted views b r none unseen is off = λ i. state_of st (none i) (unseen i) (is i) (off i)

module _ (tells : Bool) (b : Retention) (r : Turning) (st : Store) (k : KeepsTurning tells b r st) where
  with_fit : (st' : Store) → (IsTrue tells → IsWalking r.shaded r.walk st') → (IsTrue tells → IsFit r.shaded st')
      → KeepsTurning tells b r st'
  with_fit st' walks fit = record { pins = k.pins; step = k.step; idle = k.idle; still = k.still; walks = walks; fit = fit }

  -- outside of a rotation any store is walked
  walks_by : (st' : Store) → (r.turning ≡ true → IsWalking r.shaded r.walk st') → IsWalking r.shaded r.walk st'
  walks_by st' on = at r.turning refl
    where
      at : (t : Bool) → r.turning ≡ t → IsWalking r.shaded r.walk st'
      at true e = on e
      at false e = subst (λ (x : List Hash × Walk). IsWalking x.0 x.1 st') (λ i. (sym (k.idle e) i, sym (k.still e) i)) (no_walking st')

  -- the store was only read
  pub keeps_counted : (st' : Store) → (IsTrue tells → Counted st st') → KeepsTurning tells b r st'
  keeps_counted st' same = with_fit st' (λ told. walking_counted r.shaded r.walk st st' (same told) (k.walks told)) (λ told. fit_counted
      r.shaded st st' (same told) (k.fit told))

  pub keeps_was_read : (half : Half) (st' : Store) → WasRead tells half st st' → KeepsTurning tells b r st'
  keeps_was_read half st' read = keeps_counted st' read.same

  -- both backends hold what they held
  pub keeps_maps : (st' : Store) → (IsTrue tells → (st'.writable ≡ st.writable) × (st'.archive ≡ st.archive)) → KeepsTurning tells b r st'
  keeps_maps st' same = with_fit st'
      (λ told. walking_alike r.shaded r.walk st st' (k.walks told) (same told).0 (same told).1) (λ told.
      subst (λ (m : Nodes × Nodes). (h : Hash) → finite.get m.0 h ≢ None → finite.get m.1 h ≢ None
      → Reach (finite.get (merged m.0 m.1)) r.shaded h) (λ i. (sym (same told).0 i, sym (same told).1 i)) (k.fit told))

  -- forms were stored, each of whose hashes that is new is shaded, and reached from what was told
  pub keeps_forms : (half : Half) (st' : Store) → (IsTrue tells → (forms : List Bytes) × store.HasForms half forms st st')
      → (IsTrue tells → r.turning ≡ true → Adds r.shaded r.walk st st') → KeepsTurning tells b r st'
  keeps_forms half st' some adds = with_fit st'
      (λ told. walks_by st' (λ on. walking_adds r.shaded r.walk st st' (adds told on) (k.walks told))) (λ told.
      fit_counted r.shaded (store.with_forms half st (some told).0) st' (some told).1
      (fit_forms half r.shaded st (some told).0 (k.fit told)))

  -- a form was put, whose hash was told and is shaded
  pub keeps_put : (h : Hash) (form : Bytes) (result : Result Put StoreFault) (st' : Store) → (IsTrue tells → Puts st h form result st')
      → (r.turning ≡ true → Contains r.shaded h × Contains (walks.shaded r.walk) h) → KeepsTurning tells b r st'
  keeps_put h form result st' puts on = with_fit st' (λ told. walks_by st' (λ e. walk result (on e) (puts told) (k.walks told)))
      (λ told. at result (puts told) (k.fit told))
    where
      pair : finite.get (nodes_of st) h ≡ None → Counted (with_pair st h form) st' → IsFit r.shaded st → IsFit r.shaded st'
      pair none counted fit = fit_counted r.shaded (with_pair st h form) st' counted (fit_pair r.shaded st h form none fit)

      may : MayStore st h form st' → IsFit r.shaded st → IsFit r.shaded st'
      may m fit = ⊎_elim (λ same. fit_counted r.shaded st st' same fit) (λ new. pair new.0 new.1 fit) m

      at : (x : Result Put StoreFault) → Puts st h form x st' → IsFit r.shaded st → IsFit r.shaded st'
      at (Ok put.New) p fit = pair p.0 p.1 fit
      at (Ok put.Same) p fit = fit_counted r.shaded st st' p.1 fit
      at (Err (fault.WrongHash hash found)) p fit = fit_counted r.shaded st st' p fit
      at (Err (fault.Clash hash old new)) p fit = fit_counted r.shaded st st' p.4 fit
      at (Err fault.Fault) p fit = may p fit
      at (Err fault.Memory) p fit = may p fit

      walk_pair : Contains r.shaded h × Contains (walks.shaded r.walk) h → finite.get (nodes_of st) h ≡ None
          → Counted (with_pair st h form) st' → IsWalking r.shaded r.walk st → IsWalking r.shaded r.walk st'
      walk_pair has none counted w =
          walking_counted r.shaded r.walk (with_pair st h form) st' counted
          (walking_adds r.shaded r.walk st (with_pair st h form) (adds_pair r.shaded r.walk st h form none has) w)

      walk_may : Contains r.shaded h × Contains (walks.shaded r.walk) h → MayStore st h form st' → IsWalking r.shaded r.walk st
          → IsWalking r.shaded r.walk st'
      walk_may has m w = ⊎_elim (λ same. walking_counted r.shaded r.walk st st' same w) (λ new. walk_pair has new.0 new.1 w) m

      walk : (x : Result Put StoreFault) → Contains r.shaded h × Contains (walks.shaded r.walk) h → Puts st h form x st'
          → IsWalking r.shaded r.walk st → IsWalking r.shaded r.walk st'
      walk (Ok put.New) has p w = walk_pair has p.0 p.1 w
      walk (Ok put.Same) has p w = walking_counted r.shaded r.walk st st' p.1 w
      walk (Err (fault.WrongHash hash found)) has p w = walking_counted r.shaded r.walk st st' p w
      walk (Err (fault.Clash hash old new)) has p w = walking_counted r.shaded r.walk st st' p.4 w
      walk (Err fault.Fault) has p w = walk_may has p w
      walk (Err fault.Memory) has p w = walk_may has p w

  -- the rotation under way was told more
  pub keeps_shaded : (r' : Turning) (h : Hash) → (r.turning ≡ true → Shades r h r') → (r.turning ≡ false → r' ≡ r)
      → KeepsTurning tells b r' st
  keeps_shaded r' h told same = at r.turning refl
    where
      at : (t : Bool) → r.turning ≡ t → KeepsTurning tells b r' st
      at true e =
          let s : Shades r h r' = told e in
          let on : r'.turning ≡ r.turning = ap (λ (x : Turning). x.turning) s.rest in record {
            pins = k.pins;
            step = on ∙ k.step;
            idle = λ off. absurd (false≢true (sym off ∙ on ∙ e));
            still = λ off. absurd (false≢true (sym off ∙ on ∙ e));
            walks = λ t. walking_shaded r.shaded r'.shaded r.walk r'.walk st h s.told s.walk (k.walks t);
            fit = λ t q written old. reach_wider (still (finite.get (nodes_of st))) (λ p c. (s.told p).1 (inl c)) (k.fit t q written old);
          }
      at false e = subst (λ (x : Turning). KeepsTurning tells b x st) (sym (same e)) k

  -- a ledger is listed
  pub keeps_listing : (h : Hash) (seq : ℕ) → KeepsTurning tells (after_listing b h seq) r st
  keeps_listing h seq = record { pins = k.pins; step = k.step; idle = k.idle; still = k.still; walks = k.walks; fit = k.fit }

  -- a rotation begins, or doesn't
  pub keeps_begin : (targets : List Hash) (reply : Begun) (b' : Retention) (r' : Turning) → reply ≡ begun_by r.turning (due b) b.last
      → AfterBegin b targets r reply b' r' → InStep r' b' → KeepsTurning tells b' r' st
  keeps_begin targets (begun.Begun seq floor) b' r' is after step = record {
    pins = ap (λ (x : Retention). x.pins) after.0 ∙ k.pins;
    step = step;
    idle = λ off. absurd (false≢true (sym off ∙ after.1.under_way));
    still = λ off. absurd (false≢true (sym off ∙ after.1.under_way));
    walks = λ t. begun_walking r'.shaded r'.walk st after.1.walk;
    fit = λ t q written old.
        reach_wider (still (finite.get (nodes_of st))) (λ p c. absurd (in_nothing c))
        (subst (λ (hs : List Hash). Reach (finite.get (nodes_of st)) hs q) (k.idle (at r.turning refl is)) (k.fit t q written old));
  }
    where
      at : (t : Bool) → r.turning ≡ t → begun.Begun seq floor ≡ begun_by t (due b) b.last → r.turning ≡ false
      at true e none = cc
      at false e none = e
  keeps_begin targets begun.NotDue b' r' is after step =
      subst (λ (x : Turning). KeepsTurning tells b' x st) (sym after.1) (subst (λ (x : Retention). KeepsTurning tells x r st)
      (sym after.0) k)
  keeps_begin targets begun.Busy b' r' is after step =
      subst (λ (x : Turning). KeepsTurning tells b' x st) (sym after.1) (subst (λ (x : Retention). KeepsTurning tells x r st)
      (sym after.0) k)

  -- the rotation ends
  pub keeps_ended : (epoch : ℕ) (b' : Retention) (r' : Turning) (st' : Store) → Ends r b st epoch r' b' st'
      → (IsTrue tells → st'.writable ≡ finite.empty) → KeepsTurning tells b' r' st'
  keeps_ended epoch b' r' st' ends fresh = record {
    pins = ap (λ (x : Retention). x.pins) ends.book ∙ k.pins;
    step = ap (λ (x : Turning). x.turning) ends.rotator ∙ sym (ap (λ (x : Retention). is_some x.turning) ends.book);
    idle = λ off. ap (λ (x : Turning). x.shaded) ends.rotator;
    still = λ off. ap (λ (x : Turning). x.walk) ends.rotator;
    walks = λ t. subst (λ (x : Turning). IsWalking x.shaded x.walk st') (sym ends.rotator) (no_walking st');
    fit = λ t q written old.
        absurd (written (ap (λ (m : Nodes). finite.get m q) (fresh t) ∙ finite.get-empty hash_cmp q));
  }

  -- or goes on
  pub keeps_going : r.turning ≡ true → (b' : Retention) (r' : Turning) (st' : Store) → GoesOn r b st r' b' st'
      → (IsTrue tells → IsWalking r.shaded r'.walk st') → (IsTrue tells → IsFit r.shaded st') → KeepsTurning tells b' r' st'
  keeps_going turning b' r' st' on walks fit =
      subst (λ (x : Turning). KeepsTurning tells b' x st') (sym on.rotator)
      (subst (λ (x : Retention). KeepsTurning tells x (record r { walk = r'.walk }) st') (sym on.book) (record {
        pins = k.pins;
        step = k.step;
        idle = k.idle;
        still = λ off. absurd (false≢true (sym off ∙ turning));
        walks = walks;
        fit = fit;
      }))

  pub finish_keeps : r.turning ≡ true → (result : Result ℕ StoreFault) (b' : Retention) (r' : Turning) (st' : Store) → AfterFinish r b st
      result r' b' st'
      → (IsTrue tells → AfterRotation r.shaded st result st') → (IsTrue tells → AfterFit r.shaded st result st')
      → (IsTrue tells → OnErr result (IsWalking r.shaded r'.walk st')) → KeepsTurning tells b' r' st'
  finish_keeps turning (Ok epoch) b' r' st' after nodes fit walks = keeps_ended epoch b' r' st' after.0 (λ t. (nodes t).0.fresh)
  finish_keeps turning (Err why) b' r' st' after nodes fit walks = keeps_going turning b' r' st' after.1 (λ t. walks t) (λ t. (fit t).1)

  -- an offer was taken, whose walk took what it writes before
  pub keeps_taken : (half : Half) (r' : Turning) (st' : Store) → r' ≡ record r { walk = r'.walk } → (r.turning ≡ false → r' ≡ r)
      → (IsTrue tells → (forms : List Bytes) × store.HasForms half forms st st')
      → (IsTrue tells → r.turning ≡ true → IsWalking r.shaded r'.walk st') → KeepsTurning tells b r' st'
  keeps_taken half r' st' rest off some walks = record {
    pins = k.pins;
    step = ap (λ (x : Turning). x.turning) rest ∙ k.step;
    idle = λ e. ap (λ (x : Turning). x.shaded) rest ∙ k.idle (was e);
    still = λ e. ap (λ (x : Turning). x.walk) (off (was e)) ∙ k.still (was e);
    walks = λ t. subst (λ (hs : List Hash). IsWalking hs r'.walk st') (sym told) (at t r.turning refl);
    fit = λ t. subst (λ (hs : List Hash). IsFit hs st') (sym told)
        (fit_counted r.shaded (store.with_forms half st (some t).0) st' (some t).1 (fit_forms half r.shaded st (some t).0 (k.fit t)));
  }
    where
      told : r'.shaded ≡ r.shaded
      told = ap (λ (x : Turning). x.shaded) rest

      was : r'.turning ≡ false → r.turning ≡ false
      was e = sym (ap (λ (x : Turning). x.turning) rest) ∙ e

      at : IsTrue tells → (t : Bool) → r.turning ≡ t → IsWalking r.shaded r'.walk st'
      at t true e = walks t e
      at t false e =
          subst (λ (x : List Hash × Walk). IsWalking x.0 x.1 st')
          (λ i. (sym (k.idle e) i, sym (ap (λ (x : Turning). x.walk) (off e) ∙ k.still e) i)) (no_walking st')

-- an answer of an acquisition stores some forms
pub answers_forms : {X : Type 0} (half : Half) (outcome : Result X Clash) (forms : List Bytes) (st : Store) (result : Result X OfferFault)
    (st' : Store)
    → Answers half outcome forms st result st' → (some : List Bytes) × store.HasForms half some st st'
answers_forms half outcome forms st (Ok x) st' a = (forms, a.1)
answers_forms half outcome forms st (Err (offer.Clash h old new)) st' a = (forms, a.1)
answers_forms half outcome forms st (Err offer.Fault) st' a = (a.front, a.stored)
answers_forms half outcome forms st (Err offer.Memory) st' a = (a.front, a.stored)

-- a rotator hears what it is told
pub hears_shaded : (r r' : Turning) (h : Hash) → (r.turning ≡ true → Shades r h r') → (r.turning ≡ false → r' ≡ r)
    → Hears r.shaded (h ∷ []) r'.shaded
hears_shaded r r' h told same = at r.turning refl
  where
    at : (t : Bool) → r.turning ≡ t → Hears r.shaded (h ∷ []) r'.shaded
    at true e = record {
      stays = λ q c. ((told e).told q).1 (inl c);
      only = λ q c. ⊎_elim (λ old. inl old) (λ is. inr (subst (Contains (h ∷ [])) (sym is) (in_head h []))) (((told e).told q).0 c);
    }
    at false e = subst (λ (x : Turning). Hears r.shaded (h ∷ []) x.shaded) (sym (same e)) (hears_none r.shaded (h ∷ []))

-- and its count of slices stays
pub shaded_slices : (r r' : Turning) (h : Hash) → (r.turning ≡ true → Shades r h r') → (r.turning ≡ false → r' ≡ r)
    → r'.slices ≡ r.slices
shaded_slices r r' h told same = at r.turning refl
  where
    at : (t : Bool) → r.turning ≡ t → r'.slices ≡ r.slices
    at true e = ap (λ (x : Turning). x.slices) (told e).rest
    at false e = ap (λ (x : Turning). x.slices) (same e)

pub told_shaded : (r r' : Turning) (b : Retention) (h : Hash) → InStep r b → (r.turning ≡ true → Shades r h r') → IsSome b.turning
    → Contains r'.shaded h
told_shaded r r' b h step told some = ((told (step ∙ some)).told h).1 (inr refl)

-- nothing was born where the writable backend holds nothing
none_born : (st : Store) → st.writable ≡ finite.empty → born_of st ≡ set.empty
none_born st fresh =
    same_set nat_list_cmp_total (slice_cmp-IsAntisymmetric nat_cmp-IsAntisymmetric) _ _ (λ q.
    contains-difference nat_list_cmp_total _ _ q
    ∙ ap (λ (b : Bool). b && not (set.contains (hashes_in st.archive) q))
    (contains_hashes st.writable q ∙ ap (λ (m : Nodes). is_some (finite.get m q)) fresh ∙ ap is_some (finite.get-empty hash_cmp q))
    ∙ sym (contains-empty _ q))

and_false : (b : Bool) → (b && false) ≡ false
and_false true = refl
and_false false = refl

-- what is copied was not born in the epoch, and what was is there still
module _ (shaded : List Hash) (st st' : Store) (some : CopiesSome shaded st st') where
  copied_at : (q : Hash) (w w' a : Option Bytes) → finite.get st.writable q ≡ w → finite.get st'.writable q ≡ w'
      → finite.get st.archive q ≡ a → (is_some w' && not (is_some a)) ≡ (is_some w && not (is_some a))
  copied_at q w w' (Some f) e e' ea = and_false (is_some w') ∙ sym (and_false (is_some w))
  copied_at q None None None e e' ea = refl
  copied_at q (Some f) (Some f') None e e' ea = refl
  copied_at q (Some f) None None e e' ea = absurd (some_none (finite.get st'.writable q) f (some.kept q f e) e')
  copied_at q None (Some f') None e e' ea = ⊎_elim
      (λ was. absurd (some_none (finite.get st.writable q) f' was e))
      (λ new. absurd (some_none (finite.get (nodes_of st) q) f' new.1
      (get-merged st.writable st.archive q ∙ ap (λ (o : Option Bytes). option_or o (finite.get st.archive q)) e ∙ ea)))
      (some.only q f' e')

  same_born : born_of st' ≡ born_of st
  same_born = same_set nat_list_cmp_total (slice_cmp-IsAntisymmetric nat_cmp-IsAntisymmetric) _ _ (λ q.
      contains-difference nat_list_cmp_total _ _ q ∙ at q st'.writable st'.archive
      ∙ ap (λ (m : Nodes). is_some (finite.get st'.writable q) && not (is_some (finite.get m q))) some.archive
      ∙ copied_at q (finite.get st.writable q) (finite.get st'.writable q) (finite.get st.archive q) refl refl refl
      ∙ sym (at q st.writable st.archive) ∙ sym (contains-difference nat_list_cmp_total _ _ q))
    where
      at : (q : Hash) (w a : Nodes) → (set.contains (hashes_in w) q && not (set.contains (hashes_in a) q))
          ≡ (is_some (finite.get w q) && not (is_some (finite.get a q)))
      at q w a i = contains_hashes w q i && not (contains_hashes a q i)

-- the state as a rotation ends, and as it goes on
module _ (wanted : ForHash Acquiring) (views : ForActor Hash) (b b' : Retention) (r r' : Turning) (st st' : Store) where
  abbrev before : State
  before = state_of st wanted views b r

  abbrev after : State
  after = state_of st' wanted views b' r'

  pub swap_ends : (epoch : ℕ) → Ends r b st epoch r' b' st' → Rotated r.shaded st st' → OnlyReachedOrBorn r.shaded st st'
      → SwapsTold before after
  swap_ends epoch ends rotated only = record {
    fewer = rotated.fewer;
    kept = rotated.reached;
    only = λ h there. at h there (finite.get (nodes_of st') h) refl;
    rest = ap (λ (x : Retention). state_of st' wanted views x r') ends.book
        ∙ ap (λ (x : Turning). state_of st' wanted views (after_finish b) x) ends.rotator
        ∙ (λ i. record (state_of st' wanted views (after_finish b) (record r { turning = false; shaded = []; walk = no_walk }))
        { born = none_born st' rotated.fresh i; epoch = (ends.epoch ∙ ends.new) i });
  }
    where
      at : (h : Hash) → form_in after h ≢ None → (o : Option Bytes) → finite.get (nodes_of st') h ≡ o
          → Reach (finite.get (nodes_of st)) r.shaded h ⊎ IsTrue (set.contains (born_of st) h)
      at h there None e = absurd (there e)
      at h there (Some form) e = only h form e

  pub swap_goes : GoesOn r b st r' b' st' → CopiesSome r.shaded st st' → after ≡ before
  swap_goes on some =
      ap (λ (x : Retention). state_of st' wanted views x r') on.book
      ∙ ap (λ (x : Turning). state_of st' wanted views b x) on.rotator
      ∙ (λ i. record (state_of st' wanted views b r)
      { nodes = some.nodes i; born = same_born r.shaded st st' some i; epoch = on.epoch i })

  -- what the end of a rotation comes to
  pub finish_swaps : (result : Result ℕ StoreFault) → AfterFinish r b st result r' b' st' → AfterRotation r.shaded st result st'
      → AfterFit r.shaded st result st' → IsSome b.turning → IfOk (swap_told result) (λ x. AfterSwap before x after)
  finish_swaps (Ok epoch) left nodes fit some = (some, left.0.new, swap_ends epoch left.0 nodes.0 fit.0)
  finish_swaps (Err why) left nodes fit some = tt

  pub finish_stays : (result : Result ℕ StoreFault) → AfterFinish r b st result r' b' st' → AfterRotation r.shaded st result st'
      → OnErr (swap_told result) (after ≡ before)
  finish_stays (Ok epoch) left nodes = tt
  finish_stays (Err why) left nodes = swap_goes left.1 nodes.1

  pub finish_grows : (result : Result ℕ StoreFault) → AfterFinish r b st result r' b' st' → st.faults ≤ st'.faults
      → Desks.Grows (Desks.desk_of st wanted views b r) (Desks.desk_of st' wanted views b' r')
  finish_grows (Ok epoch) left later = record {
    later = later;
    few = omega (arith, ap (λ (x : Retention). length x.listed) left.0.book);
    ages = omega (arith, left.0.epoch, left.0.new);
  }
  finish_grows (Err why) left later = record {
    later = later;
    few = omega (arith, ap (λ (x : Retention). length x.listed) left.1.book);
    ages = omega (arith, left.1.epoch);
  }

-- a rotation goes on for a fault only where the store's count rose
pub finish_fault : (result : Result ℕ StoreFault) (st st' : Store) → IfErr result (λ e. RefusedBy st e st')
    → IfErr (swap_told result) (λ e. e ≡ back.Fault → Rose st.faults st'.faults)
finish_fault (Ok epoch) st st' cause = tt
finish_fault (Err fault.Fault) st st' cause = λ e. cause
finish_fault (Err fault.Memory) st st' cause = λ e. cc
finish_fault (Err (fault.Clash h old new)) st st' cause = absurd cause
finish_fault (Err (fault.WrongHash h found)) st st' cause = absurd cause

-- nothing else refuses the end of a rotation
pub finish_plain : (result : Result ℕ StoreFault) (st st' : Store) → IfErr result (λ e. RefusedBy st e st') → IfErr result IsPlain
finish_plain (Ok epoch) st st' cause = tt
finish_plain (Err fault.Fault) st st' cause = tt
finish_plain (Err fault.Memory) st st' cause = tt
finish_plain (Err (fault.Clash h old new)) st st' cause = cause
finish_plain (Err (fault.WrongHash h found)) st st' cause = cause

-- a hash that was told just now, and the walk takes it
pub just_told : (r r' : Turning) (h : Hash) → (r.turning ≡ true → Shades r h r') → (r.turning ≡ false → r' ≡ r) → r'.turning ≡ true
    → Contains r'.shaded h × Contains (walks.shaded r'.walk) h
just_told r r' h told same on = at r.turning refl
  where
    at : (t : Bool) → r.turning ≡ t → Contains r'.shaded h × Contains (walks.shaded r'.walk) h
    at true e = (((told e).told h).1 (inr refl), is_shaded r.walk h r'.walk (told e).walk)
    at false e = absurd (false≢true (sym e ∙ sym (ap (λ (x : Turning). x.turning) (same e)) ∙ on))

pub on_ok : {X E : Type 0} (r : Result X E) {P : Type 0} → P → OnOk r P
on_ok (Ok x) p = p
on_ok (Err e) p = tt

-- ---- what an offer writes
-- the walk takes more hashes, none of which is stored
pub walking_heeded : (shaded : List Hash) (r r' : Turning) (st : Store) → Heeds (finite.get (nodes_of st)) r r'
    → IsWalking shaded r.walk st → IsWalking shaded r'.walk st
walking_heeded shaded r r' st h k = record {
  colours = record {
    copied = λ q c. k.colours.copied q (subst (λ (hs : List Hash). Contains hs q) h.black c);
    named = λ q p form c is names stored. h.stays p
        (k.colours.named q p form (subst (λ (hs : List Hash). Contains hs q) h.black c) is names stored);
  };
  told = λ q c stored. h.stays q (k.told q c stored);
  kept = λ q c stored. k.kept q (h.only q c stored) stored;
}

module _ (half : Half) where
  -- a form more
  form_grows : (st : Store) (form : Bytes)
      → Grows (finite.get (nodes_of st)) (finite.get (nodes_of (store.with_form half st form)))
      × Grows (finite.get st.writable) (finite.get (store.with_form half st form).writable)
  form_grows st form = at (finite.get (nodes_of st) (half form)) refl
    where
      at : (o : Option Bytes) → finite.get (nodes_of st) (half form) ≡ o
          → Grows (finite.get (nodes_of st)) (finite.get (nodes_of (if is_some o then st else with_pair st (half form) form)))
          × Grows (finite.get st.writable) (finite.get (if is_some o then st else with_pair st (half form) form).writable)
      at None e = (grown_pair st (half form) form e, written_pair st (half form) form e)
      at (Some old) e = (λ h f is. is, λ h f is. is)

  form_new : (st : Store) (form : Bytes) (h : Hash) (f : Bytes) → finite.get (nodes_of (store.with_form half st form)) h ≡ Some f
      → (finite.get (nodes_of st) h ≡ Some f) ⊎ ((h ≡ half form) × (f ≡ form))
  form_new st form h f e = at (finite.get (nodes_of st) (half form)) refl e
    where
      at : (o : Option Bytes) → finite.get (nodes_of st) (half form) ≡ o
          → finite.get (nodes_of (if is_some o then st else with_pair st (half form) form)) h ≡ Some f
          → (finite.get (nodes_of st) h ≡ Some f) ⊎ ((h ≡ half form) × (f ≡ form))
      at None gone is = new_or_old (nodes_of st) (half form) form h f
          (ap (λ (n : Nodes). finite.get n h) (sym (merged-insert st.writable st.archive (half form) form)) ∙ is)
      at (Some old) gone is = inl is

  pub forms_grow : (forms : List Bytes) (st : Store)
      → Grows (finite.get (nodes_of st)) (finite.get (nodes_of (store.with_forms half st forms)))
      × Grows (finite.get st.writable) (finite.get (store.with_forms half st forms).writable)
  forms_grow [] st = (λ h f is. is, λ h f is. is)
  forms_grow (form ∷ forms) st =
      let one = form_grows st form in
      let rest = forms_grow forms (store.with_form half st form) in
      (λ h f is. rest.0 h f (one.0 h f is), λ h f is. rest.1 h f (one.1 h f is))

  forms_new : (forms : List Bytes) (st : Store) (h : Hash) (f : Bytes) → finite.get (nodes_of (store.with_forms half st forms)) h ≡ Some f
      → (finite.get (nodes_of st) h ≡ Some f) ⊎ ((h ≡ half f) × Contains forms f)
  forms_new [] st h f e = inl e
  forms_new (form ∷ forms) st h f e = ⊎_elim
      (λ before. ⊎_elim (λ old. inl old)
      (λ this. inr (this.0 ∙ ap half (sym this.1), subst (Contains (form ∷ forms)) (sym this.1) (in_head form forms)))
      (form_new st form h f before))
      (λ later. inr (later.0, in_tail form f forms later.1))
      (forms_new forms (store.with_form half st form) h f e)

  -- what stores forms adds them, each of which is shaded and named by what is kept
  pub forms_add : (shaded : List Hash) (w : Walk) (forms : List Bytes) (st st' : Store) → store.HasForms half forms st st'
      → ((f : Bytes) → Contains forms f → Stored (finite.get (nodes_of st)) (half f) ⊎ Contains (walks.shaded w) (half f))
      → ((f : Bytes) → Contains forms f → finite.get (nodes_of st') (half f) ≡ Some f → Reach (finite.get (nodes_of st')) shaded (half f))
      → Adds shaded w st st'
  forms_add shaded w forms st st' has heeded reached = record {
    grows = λ h f e. ap (λ (x : Store). finite.get (nodes_of x) h) has ∙ (forms_grow forms st).0 h f e;
    writes = λ h f e. ap (λ (x : Store). finite.get x.writable h) has ∙ (forms_grow forms st).1 h f e;
    new = λ h f e. ⊎_elim (λ old. inl old)
        (λ new. ⊎_elim
        (λ (was : Stored (finite.get (nodes_of st)) (half f)).
        inl (let there : finite.get (nodes_of st) h ≡ Some was.0 = ap (finite.get (nodes_of st)) new.0 ∙ was.1 in
        there ∙ ap Some (one_form (finite.get (nodes_of st') h) was.0 f
        (ap (λ (x : Store). finite.get (nodes_of x) h) has ∙ (forms_grow forms st).0 h was.0 there) e)))
        (λ among. inr (
          subst (Contains (walks.shaded w)) (sym new.0) among,
          subst (Reach (finite.get (nodes_of st')) shaded) (sym new.0)
              (reached f new.1 (ap (finite.get (nodes_of st')) (sym new.0) ∙ e)),
        ))
        (heeded f new.1))
        (forms_new forms st h f (ap (λ (x : Store). finite.get (nodes_of x) h) (sym has) ∙ e));
  }

-- an open target was told to the rotation under way
pub wanted_told : (o : Option ℕ) (P : Type 0) → IfSome o (λ v. P) → is_some o ≡ true → P
wanted_told None P if_some e = absurd (false≢true e)
wanted_told (Some v) P if_some e = if_some

-- what was told stays as it was, where the walk alone goes on
pub walked_state : (st : Store) (wanted : ForHash Acquiring) (views : ForActor Hash) (b : Retention) (r r' : Turning)
    → r' ≡ record r { walk = r'.walk } → state_of st wanted views b r' ≡ state_of st wanted views b r
walked_state st wanted views b r r' rest = ap (λ (x : Turning). state_of st wanted views b x) rest

-- ---- a slice of a rotation under way
module _ (tells : Bool) (b : Retention) (r r' : Turning) (st st' : Store) (k : KeepsTurning tells b r st) (n : ℕ)
    (same : r' ≡ record r { walk = r'.walk; slices = n }) where
  -- the walk goes on
  pub keeps_sliced : r.turning ≡ true
      → (IsTrue tells → CopiesSome r.shaded st st' × IsWalking r.shaded r'.walk st') → KeepsTurning tells b r' st'
  keeps_sliced on walks =
      subst (λ (x : Turning). KeepsTurning tells b x st') (sym same) (record {
        pins = k.pins;
        step = k.step;
        idle = k.idle;
        still = λ off. absurd (false≢true (sym off ∙ on));
        walks = λ t. (walks t).1;
        fit = λ t. fit_on r.shaded st st' (k.fit t) (walks t).0;
      })

  -- and the state stays as it is: what is stored, what was born, and what was told
  pub slice_stays : (wanted : ForHash Acquiring) (views : ForActor Hash) → CopiesSome r.shaded st st' → st'.epoch ≡ st.epoch
      → state_of st' wanted views b r' ≡ state_of st wanted views b r
  slice_stays wanted views some epoch =
      ap (λ (x : Turning). state_of st' wanted views b x) same
      ∙ (λ i. record (state_of st wanted views b r) { nodes = some.nodes i; born = same_born r.shaded st st' some i; epoch = epoch i })

-- how a slice leaves the rotator
pub sliced_as : {E : Type 0} (r r' : Turning) (result : Result Left E) → SlicesBy r result r'
    → (n : ℕ) × (r' ≡ record r { walk = r'.walk; slices = n })
sliced_as r r' (Ok l) by = (slices_after l r.slices, by)
sliced_as r r' (Err e) by = (r.slices, by)
