-- The commands that begin and end a rotation, beside the open sessions.
use Rattle.std.proofs.Common.{◌≡◌, inl, inr, ⊎_elim, ◌≤◌, ◌+◌, ℕ, Bool, true, false, cond, nat_le, is_some, IsTrue, IsSome}
use Rattle.std.proofs.Common.{IsSomeAnd, IfSome}
use Rattle.std.proofs.Common.{List, [], ◌∷◌, ◌++◌, map, Option, None, Some, Contains, refl, sym, ap, ◌∙◌, subst, leb-true}
use Rattle.std.specs.Option.{option_and_then}
use Rattle.std.specs.List.{All, slice_index_or}
use Rattle.std.specs.FinSet as set
use Rattle.std.specs.Map.{keys_of, values_of}
use Rattle.std.specs.Cmp.{eq_by_cmp_equiv}
use Rattle.std.specs.Cmp.Lexicographic.{nat_list_cmp_total}
use Rattle.std.proofs.lemmas.Bool.{le-leb, false≢true}
use Rattle.std.proofs.lemmas.List.Elements.{Contains-append_left, Contains-append_right, Contains-append_cases}
use Rattle.std.proofs.lemmas.Map.Entries.{option_filter, lookup-filter-values}
use Rattle.std.proofs.lemmas.Map.Keys.{IsDistinct-from_sorted}
use Rattle.std.proofs.lemmas.Map.Lookups.{exact_bytes}
use Rattle.std.proofs.lemmas.Map.Views.{tells_apart, Contains-keys_from_lookup, IsSome-lookup_from_Contains}
use Rattle.ledger_spec.specs.Bytes.{Bytes, Hash, Half, Lookup, is_nonzero}
use Rattle.ledger_spec.specs.declared.Kind.TheVariants as kinds
use Rattle.ledger_spec.specs.Forms.{header_of}
use Rattle.ledger_spec.specs.Header.{header_bytes}
use Rattle.ledger_spec.specs.Maps.{ForHash, ForActor, hash_cmp, get_in, IsMap}
use Rattle.ledger_spec.specs.Own.{AreStored}
use Rattle.ledger_spec.specs.Reach.{Reach, root, Stored}
use Rattle.ledger_spec.specs.Retaining.{floor_behind, listed_from}
use Rattle.ledger_spec.specs.Spots.{header_root}
use Rattle.ledger_spec.proofs.shared.ReachLaws.{reach_joins}
use Rattle.ledger_spec.proofs.shared.Storing.{in_one}
use Rattle.ledger_header.specs.Fields.{fields}
use Rattle.edit_session.specs.Drafts.{Draft, Edits, StaysOverParent}
use Rattle.node_backend.specs.declared.back.BackFault.{BackFault}
use Rattle.node_backend.specs.declared.back.BackFault.TheVariants as back
use Rattle.ledger_machine.specs.declared.commands.Command.{Command}
use Rattle.ledger_machine.specs.declared.commands.Command.TheVariants as command
use Rattle.ledger_machine.specs.declared.commands.BeginReply.{BeginReply}
use Rattle.ledger_machine.specs.declared.commands.BeginReply.TheVariants as begins
use Rattle.ledger_machine.specs.declared.commands.SwapReply.{SwapReply}
use Rattle.ledger_machine.specs.declared.commands.SwapReply.TheVariants as swaps
use Rattle.ledger_machine.specs.declared.commands.Reply.{Reply}
use Rattle.ledger_machine.specs.declared.commands.Reply.TheVariants as says
use Rattle.ledger_machine.specs.State.{State, Session, form_in, roots, bases, due, with_sessions}
use Rattle.ledger_machine.specs.Rotation.{begin_given, begin_reply, after_begin, ShadesRoots, Begins, Swapped, WhileTurning}
use Rattle.ledger_machine.specs.Rotation.{AreShaded}
use Rattle.ledger_machine.specs.Rotation.{Tells}
use Rattle.ledger_machine.specs.Commands.{MayBeRefused}
use Rattle.ledger_machine.specs.Steps.{IsAfter, Swaps, own_hashes}
use Rattle.ledger_machine.specs.Steps.{Does}
use Rattle.ledger_laws.proofs.shared.SoundForms.{in_head}
use Rattle.ledger_laws.proofs.shared.Ways.{root_named, named_reached}
use Rattle.open_sessions.specs.Edited.{IsKept, session_in, sessions_in, items_in}
use Rattle.open_sessions.specs.Rows.{AllKept}
use Rattle.open_sessions.proofs.shared.Editing.{edited}
use Rattle.open_sessions.proofs.shared.Tables.{over_same, over_values}
use Rattle.core_machine.specs.Machines.{told_forms, with_open}
use Rattle.core_machine.specs.Refusals.{read_refusal}
use Rattle.core_machine.specs.Telling.{AreTold, Carried, BeginsBy, SwapsTold, AfterSwap}
use Rattle.core_machine.proofs.shared.States.{same_shaded, refused_nothing}
use Rattle.ledger_laws.proofs.shared.Roots.{imaged, based_among}
use Rattle.core_machine.proofs.Turns.{reach_wider, still, quiet}

-- ---- commands that changed nothing
pub does_unread : (half : Half) (s s' : State) (a : ℕ) (c : Command) (why : BackFault) → MayBeRefused c → s' ≡ s
    → Does half s a c (read_refusal why) [] s'
does_unread half s s' a c back.Fault may same = record { outcome = (may, refused_nothing half s s' a c same); uses = refl }
does_unread half s s' a c back.Memory may same = record { outcome = (may, refused_nothing half s s' a c same); uses = refl }

pub same_told : (half : Half) (s s' : State) (a : ℕ) (c : Command) (r : Reply) → s' ≡ s → AreTold s → AreTold s' × Carried half s a c r s'
same_told half s s' a c r same told =
    subst (λ (x : State). AreTold x × Carried half s a c r x) (sym same) (told, at s.turning refl)
  where
    X : Type 0
    X = AreShaded s × Tells s s (own_hashes half s a c r)

    at : (o : Option ℕ) → s.turning ≡ o → Carried half s a c r s
    at None e = subst (λ p. WhileTurning p s.turning X) (sym e) tt
    at (Some v) e =
        subst (λ p. WhileTurning p p X) (sym e)
        (subst (λ p. IfSome p (λ w. AreShaded s)) e told, quiet s s (own_hashes half s a c r) refl)

-- ---- begin
-- a listed ledger that isn't below the floor stays listed
module _ (floor : ℕ) (listed : ForHash ℕ) (rises : IsMap hash_cmp listed) (h : Hash) where
  found : get_in hash_cmp (listed_from floor listed) h ≡ option_filter (nat_le floor) (get_in hash_cmp listed h)
  found = lookup-filter-values (eq_by_cmp_equiv nat_list_cmp_total) (nat_le floor) h listed (IsDistinct-from_sorted hash_cmp
      (keys_of listed) rises)

  high_by : (seq : ℕ) (b : Bool) → nat_le floor seq ≡ b → IsSome (cond b (Some seq) None) → floor ≤ seq
  high_by seq true is some = leb-true floor seq is
  high_by seq false is some = cc

  high : (o : Option ℕ) → IsSome (option_filter (nat_le floor) o) → IsSomeAnd o (λ seq. floor ≤ seq)
  high None some = cc
  high (Some seq) some = high_by seq (nat_le floor seq) refl some

  kept : (o : Option ℕ) → IsSomeAnd o (λ seq. floor ≤ seq) → IsSome (option_filter (nat_le floor) o)
  kept None none = absurd none
  kept (Some seq) le = ap (λ b. is_some (cond b (Some seq) None)) (le-leb floor seq le)

  stays_listed : IsSomeAnd (get_in hash_cmp listed h) (λ seq. floor ≤ seq) → Contains (keys_of (listed_from floor listed)) h
  stays_listed le =
      Contains-keys_from_lookup (tells_apart exact_bytes) h (listed_from floor listed)
      (subst (λ (o : Option ℕ). IsSome o) (sym found) (kept (get_in hash_cmp listed h) le))

  was_listed : Contains (keys_of (listed_from floor listed)) h → IsSomeAnd (get_in hash_cmp listed h) (λ seq. floor ≤ seq)
  was_listed c =
      high (get_in hash_cmp listed h)
      (subst (λ (o : Option ℕ). IsSome o) found
      (IsSome-lookup_from_Contains (eq_by_cmp_equiv nat_list_cmp_total) h (listed_from floor listed) c))

-- the rotation was told exactly the roots that are left
module _ (s s' : State) (v floor : ℕ) (after : IsAfter (after_begin s (begins.Begun v floor)) s') (is : floor ≡ floor_behind s.last)
    (rises : IsMap hash_cmp s.listed) (told : BeginsBy s (bases s) (begins.Begun v floor) s') where
  abbrev from : ForHash ℕ
  from = listed_from floor s.listed

  roots_left : roots s' ≡ (keys_of from ++ values_of s.views ++ bases s) ++ keys_of s.wanted
  roots_left = ap roots after

  in_left : (h : Hash) → Contains ((keys_of from ++ values_of s.views ++ bases s) ++ keys_of s.wanted) h → Contains s'.shaded h
  in_left h c = ⊎_elim
      (λ front. ⊎_elim
      (λ seen. ⊎_elim
      (λ high. (told h).1 (inl (subst (λ n. IsSomeAnd (get_in hash_cmp s.listed h) (λ seq. n ≤ seq)) is
      (was_listed floor s.listed rises h high))))
      (λ viewed. (told h).1 (inr (Contains-append_left (values_of s.views ++ keys_of s.wanted) (bases s) h
      (Contains-append_left (values_of s.views) (keys_of s.wanted) h viewed))))
      (Contains-append_cases (keys_of from) (values_of s.views) h seen))
      (λ edits. (told h).1 (inr (Contains-append_right (values_of s.views ++ keys_of s.wanted) (bases s) h edits)))
      (Contains-append_cases (keys_of from ++ values_of s.views) (bases s) h front))
      (λ wants. (told h).1 (inr (Contains-append_left (values_of s.views ++ keys_of s.wanted) (bases s) h
      (Contains-append_right (values_of s.views) (keys_of s.wanted) h wants))))
      (Contains-append_cases (keys_of from ++ values_of s.views ++ bases s) (keys_of s.wanted) h c)

  left_in : (h : Hash) → Contains s'.shaded h → Contains ((keys_of from ++ values_of s.views ++ bases s) ++ keys_of s.wanted) h
  left_in h c = ⊎_elim
      (λ high. Contains-append_left (keys_of from ++ values_of s.views ++ bases s) (keys_of s.wanted) h
      (Contains-append_left (keys_of from ++ values_of s.views) (bases s) h
      (Contains-append_left (keys_of from) (values_of s.views) h
      (stays_listed floor s.listed rises h (subst (λ n. IsSomeAnd (get_in hash_cmp s.listed h) (λ seq. n ≤ seq)) (sym is) high)))))
      (λ more. ⊎_elim
      (λ front. ⊎_elim
      (λ viewed. Contains-append_left (keys_of from ++ values_of s.views ++ bases s) (keys_of s.wanted) h
      (Contains-append_left (keys_of from ++ values_of s.views) (bases s) h
      (Contains-append_right (keys_of from) (values_of s.views) h viewed)))
      (λ wants. Contains-append_right (keys_of from ++ values_of s.views ++ bases s) (keys_of s.wanted) h wants)
      (Contains-append_cases (values_of s.views) (keys_of s.wanted) h front))
      (λ edits. Contains-append_left (keys_of from ++ values_of s.views ++ bases s) (keys_of s.wanted) h
      (Contains-append_right (keys_of from ++ values_of s.views) (bases s) h edits))
      (Contains-append_cases (values_of s.views ++ keys_of s.wanted) (bases s) h more))
      ((told h).0 c)

  shades_all : AreShaded s'
  shades_all h c = in_left h (subst (λ (hs : List Hash). Contains hs h) roots_left c)

  shades : ShadesRoots s'
  shades = record {
    only = λ h r. reach_wider (still (form_in s')) (λ q c. subst (λ (hs : List Hash). Contains hs q) (sym roots_left) (left_in q c)) r;
    all = λ h r. reach_wider (still (form_in s')) (λ q c. shades_all q c) r;
  }

-- the floor that is answered is behind the last rotation
floor_is : (s : State) (v floor : ℕ) → begins.Begun v floor ≡ begin_reply s → (s.turning ≡ None) × (floor ≡ floor_behind s.last)
floor_is s v floor is = at s.turning (due s) refl is
  where
    at : (o d : Option ℕ) → s.turning ≡ o → begins.Begun v floor ≡ begin_given s o d → (s.turning ≡ None) × (floor ≡ floor_behind s.last)
    at (Some w) d e none = cc
    at None None e none = cc
    at None (Some w) e same = (e, cc)

module _ (half : Half) (s s' : State) (a : ℕ) (rises : IsMap hash_cmp s.listed) where
  pub begun_does : (r : BeginReply) → r ≡ begin_reply s → IsAfter (after_begin s r) s' → BeginsBy s (bases s) r s'
      → Does half s a command.Begin (says.Begin r) [] s'
  begun_does r is after told = record {
    outcome = (
      record { says = ap says.Begin is; after = subst (λ (x : BeginReply). IsAfter (after_begin s x) s') is after },
      subst (λ (x : BeginReply). Begins x s') is (at r is after told),
    );
    uses = refl;
  }
    where
      at : (x : BeginReply) → x ≡ begin_reply s → IsAfter (after_begin s x) s' → BeginsBy s (bases s) x s' → Begins x s'
      at (begins.Begun v floor) e after told = shades s s' v floor after (floor_is s v floor e).1 rises told
      at begins.NotDue e after told = tt
      at begins.Busy e after told = tt

  pub begun_told : (r : BeginReply) → r ≡ begin_reply s → IsAfter (after_begin s r) s' → BeginsBy s (bases s) r s' → AreTold s
      → AreTold s' × Carried half s a command.Begin (says.Begin r) s'
  begun_told (begins.Begun v floor) is after told before =
      let idle = floor_is s v floor is in (
        subst (λ (o : Option ℕ). IfSome o (λ w. AreShaded s')) (sym (ap (λ (x : State). x.turning) after))
            (shades_all s s' v floor after idle.1 rises told),
        subst (λ o. WhileTurning o s'.turning (AreShaded s' × Tells s s' (own_hashes half s a command.Begin
            (says.Begin (begins.Begun v floor)))))
            (sym idle.0) tt,
      )
  begun_told begins.NotDue is after told before =
      same_told half s s' a command.Begin (says.Begin begins.NotDue) (after ∙ (λ i. record s { shaded = told i })) before
  begun_told begins.Busy is after told before =
      same_told half s s' a command.Begin (says.Begin begins.Busy) (after ∙ (λ i. record s { shaded = told i })) before

-- ---- swap
module _ (half : Half) (s s' : State) (a : ℕ) where
  swapped : (all : AreShaded s) → SwapsTold s s' → Swapped s s'
  swapped all told = record {
    fewer = told.fewer;
    reached = λ h r. told.kept h (reach_wider (still (form_in s)) all r);
    only = told.only;
    rest = told.rest ∙ (λ i. record s {
      nodes = s'.nodes;
      born = set.empty;
      epoch = s.epoch + 1;
      last = s.turning;
      turning = None;
      shaded = sym (ap (λ (x : State). x.shaded) told.rest) i;
    });
  }

  pub swap_does : (r : SwapReply) → AfterSwap s r s' → AreTold s → Does half s a command.Swap (says.Swap r) [] s'
  swap_does swaps.Idle after told = record {
    outcome = subst (λ o. Swaps s o (says.Swap swaps.Idle) s') (sym after.0) (record { says = refl; after = same_shaded s' s after.1 });
    uses = refl;
  }
  swap_does (swaps.Swapped epoch) after told = record { outcome = at s.turning refl after.0; uses = refl }
    where
      at : (o : Option ℕ) → s.turning ≡ o → IsSome s.turning → Swaps s s.turning (says.Swap (swaps.Swapped epoch)) s'
      at None e some = absurd (false≢true (sym (ap is_some e) ∙ some))
      at (Some v) e some =
          subst (λ p. Swaps s p (says.Swap (swaps.Swapped epoch)) s') (sym e)
          (ap (λ n. says.Swap (swaps.Swapped n)) after.1, swapped (subst (λ p. IfSome p (λ w. AreShaded s)) e told) after.2)

  pub swap_told_on : (r : SwapReply) → AfterSwap s r s' → AreTold s → AreTold s' × Carried half s a command.Swap (says.Swap r) s'
  swap_told_on swaps.Idle after told = same_told half s s' a command.Swap (says.Swap swaps.Idle) after.1 told
  swap_told_on (swaps.Swapped epoch) after told = (
    subst (λ (o : Option ℕ). IfSome o (λ w. AreShaded s')) (sym over) tt,
    subst (λ p. WhileTurning s.turning p X) (sym over) (at s.turning),
  )
    where
      X : Type 0
      X = AreShaded s' × Tells s s' (own_hashes half s a command.Swap (says.Swap (swaps.Swapped epoch)))

      over : s'.turning ≡ None
      over = ap (λ (x : State). x.turning) after.2.rest

      at : (o : Option ℕ) → WhileTurning o None X
      at None = tt
      at (Some v) = tt

-- a draft stays what it is as long as all that its ledger reaches stays
module _ (half : Half) (law : StaysOverParent) (m n : Lookup) (filed : AreStored half m) (d : Draft)
    (same : (h : Hash) → Reach m (d.base ∷ []) h → n h ≡ m h) (k : IsKept half m d) where
  abbrev bytes : Bytes
  bytes = header_bytes (fields d.parent)

  module _ (form : Bytes) (is : m d.base ≡ Some form) (head : header_of form ≡ Some bytes) where
    below : (h : Hash) → Reach m (d.parent.state_root ∷ []) h → Reach m (d.base ∷ []) h
    below h r = reach_joins each r
      where
        each : (q : Hash) → Contains (d.parent.state_root ∷ []) q → Stored m q → Reach m (d.base ∷ []) q
        each q c stored =
            let e : q ≡ header_root kinds.State bytes = in_one d.parent.state_root q c ∙ sym k.reads.state_root in
            subst (Reach m (d.base ∷ [])) (sym e)
            (named_reached m m d.base (header_root kinds.State bytes) (still m)
            (root_named m d.base form bytes kinds.State is head
            (subst (λ x. IsTrue (is_nonzero x)) e (filed q stored.0 stored.1).nonzero))
            (subst (Stored m) e stored))

    still_kept : IsKept half n d × (session_in half n d ≡ session_in half m d)
    still_kept =
        let stays = law half m n d (items_in half m d.state) (items_in half m d.txs) k.edits k.left (λ h r. same h (below h r)) in
        let these = edited half n d (items_in half m d.state) (items_in half m d.txs) stays.0 in (
          record {
            header = ap (option_and_then header_of) (same d.base (root (in_head d.base []) (form, is))) ∙ k.header;
            reads = k.reads;
            edits = subst (λ a. Edits half n d a (items_in half n d.txs)) these.0
                (subst (λ t. Edits half n d (items_in half m d.state) t) these.1 stays.0);
            left = stays.1;
          },
          (λ i. record { base = d.base; accounts = sym these.0 i; txs = sym these.1 i }),
        )

  pub kept_swapped : IsKept half n d × (session_in half n d ≡ session_in half m d)
  kept_swapped = at (m d.base) refl k.header
    where
      at : (o : Option Bytes) → m d.base ≡ o → option_and_then header_of o ≡ Some bytes
          → IsKept half n d × (session_in half n d ≡ session_in half m d)
      at None is e = cc
      at (Some form) is e = still_kept form is e

-- the ledgers that open drafts edit
pub bases_open : (half : Half) (tells : Bool) (s : State) (drafts : ForActor Draft)
    → bases (with_open half tells s drafts) ≡ map (λ (d : Draft). d.base) (values_of drafts)
bases_open half tells s drafts =
    ap (map (λ (x : Session). x.base)) (over_values (session_in half (told_forms tells s)) drafts) ∙ each (values_of drafts)
  where
    each : (ds : List Draft) → map (λ (x : Session). x.base) (map (session_in half (told_forms tells s)) ds) ≡ map (λ
        (d : Draft). d.base) ds
    each [] = refl
    each (d ∷ ds) = ap (λ hs. d.base ∷ hs) (each ds)

-- the drafts stay as a rotation ends, which was told of each ledger that is edited
module _ (half : Half) (law : StaysOverParent) (s s' : State) (drafts : ForActor Draft) (filed : AreStored half (form_in s))
    (all : AreShaded (with_open half true s drafts)) (told : SwapsTold s s') (kept_all : AllKept half s drafts) where
  each_swapped : All (λ (d : Draft). IsKept half (form_in s') d × (session_in half (form_in s') d ≡ session_in half (form_in s) d))
      (values_of drafts)
  each_swapped k x lt =
      let d : Draft = slice_index_or (values_of drafts) k x in
      let among : Contains (bases (with_open half true s drafts)) d.base =
      subst (λ (hs : List Hash). Contains hs d.base) (sym (bases_open half true s drafts))
      (imaged (λ (y : Draft). y.base) (values_of drafts) k x lt) in
      kept_swapped half law (form_in s) (form_in s') filed d
      (λ h r. told.kept h (reach_wider (still (form_in s))
      (λ q c. subst (Contains s.shaded) (sym (in_one d.base q c)) (all d.base (based_among
      (with_open half true s drafts) d.base among))) r))
      (kept_all k x lt)

  pub drafts_swapped : AllKept half s' drafts
  drafts_swapped = λ k x lt. (each_swapped k x lt).0

  sessions_swapped : sessions_in half (form_in s') drafts ≡ sessions_in half (form_in s) drafts
  sessions_swapped =
      over_same (session_in half (form_in s')) (session_in half (form_in s)) drafts (λ k x lt. (each_swapped k x lt).1)

  bench_swapped : SwapsTold (with_open half true s drafts) (with_open half true s' drafts)
  bench_swapped = record {
    fewer = told.fewer;
    kept = told.kept;
    only = told.only;
    rest = ap (with_sessions s') sessions_swapped
        ∙ ap (λ (x : State). with_sessions x (sessions_in half (form_in s) drafts)) told.rest;
  }

module _ (half : Half) (law : StaysOverParent) (tells : Bool) (s s' : State) (drafts : ForActor Draft) (told : IsTrue tells)
    (filed : AreStored half (form_in s)) (all : AreTold (with_open half tells s drafts)) (kept_all : AllKept half s drafts) where
  shaded_open : (b : Bool) → IsTrue b → AreTold (with_open half b s drafts) → IsSome s.turning → AreShaded (with_open half true s drafts)
  shaded_open true is told some = at s.turning refl some told
    where
      at : (o : Option ℕ) → s.turning ≡ o → IsSome s.turning → IfSome s.turning (λ v. AreShaded (with_open half true s drafts))
          → AreShaded (with_open half true s drafts)
      at None e i t = absurd (false≢true (sym (ap is_some e) ∙ i))
      at (Some v) e i t = subst (λ o. IfSome o (λ w. AreShaded (with_open half true s drafts))) e t
  shaded_open false is told some = absurd (false≢true is)

  -- what a swap of the machine is beside the sessions
  pub open_swapped : (r : SwapReply) → AfterSwap s r s' → AfterSwap (with_open half tells s drafts) r (with_open half tells s' drafts)
  open_swapped swaps.Idle after = (after.0, ap (λ (x : State). with_open half tells x drafts) after.1)
  open_swapped (swaps.Swapped epoch) after =
      (after.0, after.1, at tells told (shaded_open tells told all after.0))
    where
      at : (b : Bool) → IsTrue b → AreShaded (with_open half true s drafts) → SwapsTold (with_open half b s drafts)
          (with_open half b s' drafts)
      at true is shaded = bench_swapped half law s s' drafts filed shaded after.2 kept_all
      at false is shaded = absurd (false≢true is)

  pub open_kept : (r : SwapReply) → AfterSwap s r s' → AllKept half s' drafts
  open_kept swaps.Idle after = subst (λ (x : State). AllKept half x drafts) (sym after.1) kept_all
  open_kept (swaps.Swapped epoch) after =
      drafts_swapped half law s s' drafts filed (shaded_open tells told all after.0) after.2 kept_all
