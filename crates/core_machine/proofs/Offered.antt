-- What an offer writes is shaded before, and named by what its target reaches.
use Rattle.std.proofs.Common.{◌≡◌, ◌⊎◌, inl, inr, ⊎_elim, Bool, true, false, if◌then◌else◌, is_some, ℕ, List, [], ◌++◌}
use Rattle.std.proofs.Common.{Option, None, Some, Result, Ok, Err, Contains, refl, sym, ap, ◌∙◌, subst}
use Rattle.std.specs.FinMap as finite
use Rattle.std.specs.Cmp.Lexicographic.{same_text}
use Rattle.std.proofs.lemmas.Bool.{false≢true}
use Rattle.std.proofs.lemmas.List.{append-nil}
use Rattle.std.proofs.lemmas.List.Elements.{Contains-append_left}
use Rattle.ledger_spec.specs.declared.Kind.{Kind}
use Rattle.ledger_spec.specs.declared.outcomes.Offered.{Offered}
use Rattle.ledger_spec.specs.declared.outcomes.Offered.TheVariants as offered
use Rattle.ledger_spec.specs.Bytes.{Bytes, Hash, Half, Lookup, same_bytes}
use Rattle.ledger_spec.specs.Forms.{Held, form_of, hash_of}
use Rattle.ledger_spec.specs.Offers.{Clash, node_given, spot_outcome, wire_outcome, node_outcome, stored_by}
use Rattle.ledger_spec.specs.Reach.{root, Stored}
use Rattle.ledger_spec.specs.Rules.{fault_of}
use Rattle.ledger_spec.specs.Spots.{Spot, no_base, no_parent, empty_branch, under_leaf, wanted, spot_of}
use Rattle.ledger_spec.specs.Wire.{read_wire}
use Rattle.ledger_spec.specs.Acquiring.{Acquiring}
use Rattle.ledger_spec.specs.Peers.{is_present}
use Rattle.ledger_spec.proofs.shared.ReachLaws.{Grows, reach_joins}
use Rattle.ledger_spec.proofs.shared.Storing.{in_one}
use Rattle.ledger_laws.proofs.shared.SoundForms.{in_nothing}
use Rattle.ledger_laws.proofs.shared.Ways.{IsNamed, named_reached, wanted_named}
use Rattle.copy_walk.specs.Walks as walks
use Rattle.copy_walk.proofs.shared.Lists.{shaded_stays, is_shaded, shaded_from}
use Rattle.rotating_store.specs.Stores.{Store, nodes_of, Counted}
use Rattle.online_rotate.specs.Copying.{IsWalking}
use Rattle.online_rotate.specs.Rotators.{Turning}
use Rattle.online_rotate.specs.Rotators as rotator
use Rattle.node_backend.specs.declared.back.BackFault.{BackFault}
use Rattle.node_backend.specs.declared.back.BackFault.TheVariants as back
use Rattle.node_offer.specs.declared.fault.OfferFault.{OfferFault}
use Rattle.node_offer.specs.declared.fault.OfferFault.TheVariants as offer
use Rattle.node_offer.specs.Faults.{offer_fault}
use Rattle.node_offer.specs.Stored.{HasForms}
use Rattle.node_offer.proofs.shared.Storing.{counted_forms}
use Rattle.acquire_core.specs.Answers.{forms_in, Answers}
use Rattle.ledger_spec.specs.Replies.{node_stored}
use Rattle.core_machine.specs.Heeds.{Heeds, IsHeeded, AreHeeded}
use Rattle.std.specs.Map.{keys_of}
use Rattle.std.specs.Option.{IfSome}
use Rattle.ledger_spec.specs.Maps.{ForActor}
use Rattle.edit_session.specs.Drafts.{Draft}
use Rattle.ledger_machine.specs.State.{State}
use Rattle.ledger_machine.specs.Rotation.{AreShaded}
use Rattle.core_machine.specs.Machines.{with_open}
use Rattle.core_machine.specs.Telling.{AreTold, AreWantedTold}
use Rattle.ledger_laws.proofs.shared.Roots.{wanted_among}
use Rattle.core_machine.proofs.Turns.{forms_add, forms_grow, walking_adds, walking_heeded}

-- ---- heeding
pub heeds_none : (nodes : Lookup) (r : Turning) → Heeds nodes r r
heeds_none nodes r = record { black = refl; stays = λ h c. c; only = λ h c stored. c }

none_stored : {X : Type 0} (o : Option Bytes) → is_some o ≡ false → (form : Bytes) → o ≡ Some form → X
none_stored None free form e = cc
none_stored (Some f) is form e = absurd (false≢true (sym is))

-- one hash, under which nothing is stored
pub heeds_one : (nodes : Lookup) (r r' : Turning) (h : Hash) → is_some (nodes h) ≡ false → (r.turning ≡ true → rotator.Heeds r h r')
    → (r.turning ≡ false → r' ≡ r) → Heeds nodes r r'
heeds_one nodes r r' h free on off = at r.turning refl
  where
    at : (t : Bool) → r.turning ≡ t → Heeds nodes r r'
    at true e =
        let s : walks.Shades r.walk h r'.walk = (on e).walk in
        record {
          black = s.black;
          stays = λ q c. shaded_stays r.walk h r'.walk s q c;
          only = λ q c stored. ⊎_elim (λ old. old) (λ one. none_stored (nodes h) free stored.0 (ap nodes (sym one) ∙ stored.1))
              (shaded_from r.walk h r'.walk s q c);
        }
    at false e = subst (Heeds nodes r) (sym (off e)) (heeds_none nodes r)

pub heeded_one : (nodes : Lookup) (r r' : Turning) (h : Hash) → (r.turning ≡ true → rotator.Heeds r h r') → r.turning ≡ true
    → IsHeeded nodes r' h
heeded_one nodes r r' h on e = inr (is_shaded r.walk h r'.walk (on e).walk)

pub rest_one : (r r' : Turning) (h : Hash) → (r.turning ≡ true → rotator.Heeds r h r') → (r.turning ≡ false → r' ≡ r)
    → r' ≡ record r { walk = r'.walk }
rest_one r r' h on off = at r.turning refl
  where
    at : (t : Bool) → r.turning ≡ t → r' ≡ record r { walk = r'.walk }
    at true e = (on e).rest
    at false e = subst (λ (x : Turning). x ≡ record r { walk = x.walk }) (sym (off e)) refl

pub there_heeded : (nodes : Lookup) (r : Turning) (h : Hash) → is_some (nodes h) ≡ true → IsHeeded nodes r h
there_heeded nodes r h there = inl (at (nodes h) there)
  where
    at : (o : Option Bytes) → is_some o ≡ true → (form : Bytes) × (o ≡ Some form)
    at None e = absurd (false≢true e)
    at (Some form) e = (form, refl)

-- ---- what is written
stored_cases : (n : Held) (r : Result Offered Clash) (form : Bytes) → Contains (stored_by (Ok n) r) form → form ≡ form_of n
stored_cases n (Ok offered.Good) form c = in_one (form_of n) form c
stored_cases n (Ok (offered.Malformed rule)) form c = in_one (form_of n) form c
stored_cases n (Ok offered.Duplicate) form c = absurd (in_nothing c)
stored_cases n (Ok offered.NoBase) form c = absurd (in_nothing c)
stored_cases n (Ok (offered.NoParent p)) form c = absurd (in_nothing c)
stored_cases n (Ok (offered.EmptyBranch p)) form c = absurd (in_nothing c)
stored_cases n (Ok (offered.UnderLeaf p)) form c = absurd (in_nothing c)
stored_cases n (Ok (offered.BadWire cause)) form c = absurd (in_nothing c)
stored_cases n (Ok (offered.BadHash sought found)) form c = absurd (in_nothing c)
stored_cases n (Err clash) form c = absurd (in_nothing c)

-- a form that is stored is that of the offered node, and its hash is named by what the target reaches
module _ (half : Half) (nodes : Lookup) (t : Hash) (kind : Kind) (path : List ℕ) where
  abbrev IsWritten : Held → Bytes → Type 0
  IsWritten n form = (form ≡ form_of n) × IsNamed nodes t (half form)

  spot_written : (n : Held) (x : Spot) (form : Bytes) → spot_of nodes t kind path ≡ x
      → Contains (stored_by (Ok n) (spot_outcome half nodes kind path n x)) form → IsWritten n form
  spot_written n no_base form is c = absurd (in_nothing c)
  spot_written n (no_parent p) form is c = absurd (in_nothing c)
  spot_written n (empty_branch p) form is c = absurd (in_nothing c)
  spot_written n (under_leaf p) form is c = absurd (in_nothing c)
  spot_written n (wanted g q) form is c = by (same_bytes (hash_of half n) g) refl c
    where
      given : Result Offered Clash
      given = node_given (fault_of n q kind path) g (form_of n) (nodes g)

      by : (b : Bool) → same_bytes (hash_of half n) g ≡ b
          → Contains (stored_by (Ok n) (if b then given else Ok (offered.BadHash g (hash_of half n)))) form → IsWritten n form
      by true same among =
          let one : form ≡ form_of n = stored_cases n given form among in (
            one,
            subst (IsNamed nodes t) (sym (same_text (hash_of half n) g (sym same)) ∙ ap half (sym one))
                (wanted_named nodes t kind path g q is),
          )
      by false other among = absurd (in_nothing among)

  pub node_written : (blob form : Bytes) → Contains (stored_by (read_wire half blob) (node_outcome half nodes t kind path blob)) form
      → (n : Held) × (read_wire half blob ≡ Ok n) × (form ≡ form_of n) × IsNamed nodes t (half form)
  node_written blob form c = at (read_wire half blob) refl c
    where
      at : (r : Result Held ℕ) → read_wire half blob ≡ r → Contains (stored_by r (wire_outcome half nodes t kind path r)) form
          → (n : Held) × (read_wire half blob ≡ Ok n) × (form ≡ form_of n) × IsNamed nodes t (half form)
      at (Ok n) e among = let w = spot_written n (spot_of nodes t kind path) form refl among in (n, e, w.0, w.1)
      at (Err cause) e among = absurd (in_nothing among)

pub if_form : (b : Bool) (forms : List Bytes) (form : Bytes) → Contains (if b then forms else []) form → Contains forms form
if_form true forms form c = c
if_form false forms form c = absurd (in_nothing c)

-- ---- a node that is taken
-- what an answer stores is the first of these forms
pub answer_front : {X : Type 0} (half : Half) (outcome : Result X Clash) (forms : List Bytes) (s : Store) (r : Result X OfferFault)
    (s' : Store) → Answers half outcome forms s r s' → (front : List Bytes) × HasForms half front s s'
    × (rest : List Bytes) × (forms ≡ front ++ rest)
answer_front half outcome forms s (Ok x) s' a = (forms, a.1, [], sym (append-nil forms))
answer_front half outcome forms s (Err (offer.Clash h old new)) s' a = (forms, a.1, [], sym (append-nil forms))
answer_front half outcome forms s (Err offer.Fault) s' a = (a.front, a.stored, a.rest, a.parts)
answer_front half outcome forms s (Err offer.Memory) s' a = (a.front, a.stored, a.rest, a.parts)

pub front_among : (forms front rest : List Bytes) → forms ≡ front ++ rest → (f : Bytes) → Contains front f → Contains forms f
front_among forms front rest parts f c =
    subst (λ (fs : List Bytes). Contains fs f) (sym parts) (Contains-append_left front rest f c)

-- the same over a store that was only read before
pub answers_counted : {X : Type 0} (half : Half) (outcome : Result X Clash) (forms : List Bytes) (s s1 : Store) (r : Result X OfferFault)
    (s2 : Store) → Counted s s1 → Answers half outcome forms s1 r s2 → Answers half outcome forms s r s2
answers_counted half outcome forms s s1 (Ok x) s2 read a = (a.0, counted_forms half s s1 s2 forms read a.1)
answers_counted half outcome forms s s1 (Err (offer.Clash h old new)) s2 read a = (a.0, counted_forms half s s1 s2 forms read a.1)
answers_counted half outcome forms s s1 (Err offer.Fault) s2 read a =
    record { front = a.front; rest = a.rest; parts = a.parts; stored = counted_forms half s s1 s2 a.front read a.stored }
answers_counted half outcome forms s s1 (Err offer.Memory) s2 read a =
    record { front = a.front; rest = a.rest; parts = a.parts; stored = counted_forms half s s1 s2 a.front read a.stored }

-- nothing was stored, since what an offer would write wasn't shaded
pub answers_unheeded : {X : Type 0} (half : Half) (outcome : Result X Clash) (forms : List Bytes) (s s1 : Store) (why : BackFault)
    → Counted s s1 → Answers half outcome forms s (Err (offer_fault why)) s1
answers_unheeded half outcome forms s s1 back.Fault read = record { front = []; rest = forms; parts = refl; stored = read }
answers_unheeded half outcome forms s s1 back.Memory read = record { front = []; rest = forms; parts = refl; stored = read }

pub counted_nodes : (s s1 : Store) → Counted s s1 → forms_in s1 ≡ forms_in s
counted_nodes s s1 read = ap (λ (x : Store). finite.get (nodes_of x)) read

module _ (half : Half) (told : List Hash) (r r' : Turning) (s s2 : Store) (a : Acquiring) (p : ℕ) (kind : Kind) (path : List ℕ)
    (blob : Bytes) (heeds : Heeds (forms_in s) r r') (among : Contains told a.target) where
  -- what was written of a node is shaded, and reached from the target
  pub node_walks : {X : Type 0} (outcome : Result X Clash) (result : Result X OfferFault)
      → ((n : Held) → read_wire half blob ≡ Ok n → IsHeeded (forms_in s) r' (hash_of half n))
      → Answers half outcome (node_stored half (forms_in s) a.target a.peers p kind path blob) s result s2
      → IsWalking told r.walk s → IsWalking told r'.walk s2
  node_walks outcome result heeded answers k =
      let some = answer_front half outcome (node_stored half (forms_in s) a.target a.peers p kind path blob) s result s2 answers in
      walking_adds told r'.walk s s2
      (forms_add half told r'.walk some.0 s s2 some.1
      (λ f c. let w = written f (front_among (node_stored half (forms_in s) a.target a.peers p kind path blob) some.0 some.2 some.3 f c) in
      subst (λ (h : Hash). Stored (forms_in s) h ⊎ Contains (walks.shaded r'.walk) h) (ap half (sym w.2)) (heeded w.0 w.1))
      (λ f c there. let w = written f (front_among (node_stored half (forms_in s) a.target a.peers p kind path blob) some.0 some.2 some.3
      f c) in
      reach_joins (λ q d stored. root (subst (Contains told) (sym (in_one a.target q d)) among) stored)
      (named_reached (forms_in s) (forms_in s2) a.target (half f) (grown some.0 some.1) w.3 (f, there))))
      (walking_heeded told r r' s heeds k)
    where
      written : (f : Bytes) → Contains (node_stored half (forms_in s) a.target a.peers p kind path blob) f
          → (n : Held) × (read_wire half blob ≡ Ok n) × (f ≡ form_of n) × IsNamed (forms_in s) a.target (half f)
      written f c = node_written half (forms_in s) a.target kind path blob f
          (if_form (is_present a.peers p) (stored_by (read_wire half blob) (node_outcome half (forms_in s) a.target kind path blob)) f c)

      grown : (front : List Bytes) → HasForms half front s s2 → Grows (forms_in s) (forms_in s2)
      grown front has h f e = ap (λ (x : Store). finite.get (nodes_of x) h) has ∙ (forms_grow half front s).0 h f e

-- ---- one after another
pub heeds_on : (nodes : Lookup) (r s t : Turning) → Heeds nodes r s → Heeds nodes s t → Heeds nodes r t
heeds_on nodes r s t a b = record {
  black = b.black ∙ a.black;
  stays = λ h c. b.stays h (a.stays h c);
  only = λ h c stored. a.only h (b.only h c stored) stored;
}

pub heeded_on : (nodes : Lookup) (r s : Turning) (h : Hash) → Heeds nodes r s → IsHeeded nodes r h → IsHeeded nodes s h
heeded_on nodes r s h a is = ⊎_elim (λ there. inl there) (λ taken. inr (a.stays h taken)) is

pub are_on : (half : Half) (nodes : Lookup) (r s : Turning) (blob : Option Bytes) → Heeds nodes r s → AreHeeded half nodes r blob
    → AreHeeded half nodes s blob
are_on half nodes r s None a are = tt
are_on half nodes r s (Some blob) a are = λ n is. heeded_on nodes r s (hash_of half n) a (are n is)

-- what three calls heed, of which each only reads the store
module _ (half : Half) (s0 s1 s2 : Store) (r0 r1 r2 r3 : Turning) (one : Counted s0 s1) (two : Counted s1 s2)
    (first : Heeds (forms_in s0) r0 r1) (second : Heeds (forms_in s1) r1 r2) (third : Heeds (forms_in s2) r2 r3) where
  same1 : forms_in s1 ≡ forms_in s0
  same1 = counted_nodes s0 s1 one

  same2 : forms_in s2 ≡ forms_in s0
  same2 = counted_nodes s1 s2 two ∙ same1

  second_on : Heeds (forms_in s0) r1 r2
  second_on = subst (λ (m : Lookup). Heeds m r1 r2) same1 second

  third_on : Heeds (forms_in s0) r2 r3
  third_on = subst (λ (m : Lookup). Heeds m r2 r3) same2 third

  pub heeds_three : Heeds (forms_in s0) r0 r3
  heeds_three = heeds_on (forms_in s0) r0 r2 r3 (heeds_on (forms_in s0) r0 r1 r2 first second_on) third_on

  pub heeded_three : (h : Hash) → IsHeeded (forms_in s0) r1 h → IsHeeded (forms_in s0) r3 h
  heeded_three h is = heeded_on (forms_in s0) r2 r3 h third_on (heeded_on (forms_in s0) r1 r2 h second_on is)

  pub are_second : (blob : Option Bytes) → AreHeeded half (forms_in s1) r2 blob → AreHeeded half (forms_in s0) r3 blob
  are_second blob are =
      are_on half (forms_in s0) r2 r3 blob third_on (subst (λ (m : Lookup). AreHeeded half m r2 blob) same1 are)

  pub are_third : (blob : Option Bytes) → AreHeeded half (forms_in s2) r3 blob → AreHeeded half (forms_in s0) r3 blob
  are_third blob are = subst (λ (m : Lookup). AreHeeded half m r3 blob) same2 are

pub turning_on : (r s : Turning) → s ≡ record r { walk = s.walk } → r.turning ≡ true → s.turning ≡ true
turning_on r s rest e = ap (λ (x : Turning). x.turning) rest ∙ e

-- ---- the open targets
if_some_map : {X : Type 0} (o : Option X) (P Q : Type 0) → (P → Q) → IfSome o (λ v. P) → IfSome o (λ v. Q)
if_some_map None P Q f x = tt
if_some_map (Some v) P Q f x = f x

-- where each root was told, with those of the sessions, each open target was
pub wanted_open : (half : Half) (tells : Bool) (s : State) (drafts : ForActor Draft) → AreTold (with_open half tells s drafts)
    → AreWantedTold s
wanted_open half tells s drafts told =
    if_some_map s.turning (AreShaded (with_open half tells s drafts))
    ((t : Hash) → Contains (keys_of s.wanted) t → Contains s.shaded t)
    (λ are t c. are t (wanted_among (with_open half tells s drafts) t c)) told
