-- Each open acquisition stays one of the ledger under whose hash it stands, as acquisitions come, change and go.
use Rattle.std.proofs.Common.{◌≡◌, ◌≢◌, ◌<◌, ◌+◌, ◌==◌, ℕ, Bool, true, false, cond, if◌then◌else◌, List, [], ◌∷◌, Some}
use Rattle.std.proofs.Common.{◌&&◌, Result, Ok, Err, Ordering, Less, Equal, Greater, refl, sym, ap, ◌∙◌, subst, arith}
use Rattle.std.specs.Map.{set_value, remove_entry}
use Rattle.std.specs.Ordering.{eq_by_cmp, match_ordering}
use Rattle.std.proofs.lemmas.Bool.Decides.{nat_tests}
use Rattle.std.proofs.lemmas.Map.Lookups.{exact_bytes}
use Rattle.std.proofs.lemmas.List.Elements.{All-nil, All-cons, All-head, All-tail}
use Rattle.ledger_spec.specs.Bytes.{Hash}
use Rattle.ledger_spec.specs.Maps.{ForHash, hash_cmp, get_in, set_in, insert_in, remove_in}
use Rattle.ledger_spec.specs.Acquiring.{Acquiring, Verdict, complete, incomplete, seq_differs, zero_state, below_floor, malformed}
use Rattle.ledger_spec.specs.declared.peers.Ask.TheVariants as asks
use Rattle.ledger_spec.specs.declared.peers.Tick.TheVariants as ticks
use Rattle.ledger_spec.specs.Acquiring.{after_verdict, is_bad, is_bad_head, is_bad_root, after_outcome}
use Rattle.ledger_spec.specs.Peers.{Peers, is_present, was_added, after_adding, after_charging, ticked, after_tick}
use Rattle.node_offer.specs.declared.fault.OfferFault.{OfferFault}
use Rattle.ledger_spec.specs.declared.replies.BaseReply.{BaseReply}
use Rattle.ledger_spec.specs.declared.replies.BaseReply.TheVariants as base
use Rattle.ledger_spec.specs.declared.replies.NodeReply.{NodeReply}
use Rattle.ledger_spec.specs.declared.replies.NodeReply.TheVariants as node
use Rattle.ledger_spec.specs.declared.replies.TickReply.TheVariants as told
use Rattle.acquire_core.specs.Replies as acquire
use Rattle.ledger_spec.specs.Replies as replies
use Rattle.ledger_laws.proofs.shared.SoundForms.{some_same, same_hash}
use Rattle.rotating_store.specs.Stores.{Store}
use Rattle.ledger_machine.specs.State.{ended, with_wanted}
use Rattle.core_machine.specs.Desks.{Desk, over}
use Rattle.core_machine.specs.Wanting.{IsOpen, AreOpen}

-- an entry that is one of an open acquisition
abbrev Opens : Hash × Acquiring → Type 0
Opens e = IsOpen e.0 e.1

-- what is found is open
pub found_open : (t : Hash) (m : ForHash Acquiring) (a : Acquiring) → AreOpen m → get_in hash_cmp m t ≡ Some a → IsOpen t a
found_open t [] a all e = cc
found_open t (x ∷ m) a all e = at (eq_by_cmp hash_cmp t x.0) refl (found_open t m a (All-tail Opens x m all)) e
  where
    at : (b : Bool) → eq_by_cmp hash_cmp t x.0 ≡ b → (get_in hash_cmp m t ≡ Some a → IsOpen t a)
        → cond b (Some x.1) (get_in hash_cmp m t) ≡ Some a → IsOpen t a
    at true is later e =
        subst (λ h. IsOpen h a) (sym (same_hash t x.0 is)) (subst (λ y. IsOpen x.0 y) (some_same e) (All-head Opens x m all))
    at false is later e = later e

-- one changes
pub set_open : (t : Hash) (m : ForHash Acquiring) (a : Acquiring) → AreOpen m → IsOpen t a → AreOpen (set_in hash_cmp m t a)
set_open t [] a all own = All-nil Opens
set_open t (x ∷ m) a all own = at (eq_by_cmp hash_cmp t x.0) refl (set_open t m a (All-tail Opens x m all) own)
  where
    at : (b : Bool) → eq_by_cmp hash_cmp t x.0 ≡ b → AreOpen (set_in hash_cmp m t a)
        → AreOpen (cond b ((x.0, a) ∷ m) (x ∷ set_in hash_cmp m t a))
    at true is rest = All-cons Opens (x.0, a) m (subst (λ h. IsOpen h a) (same_hash t x.0 is) own) (All-tail Opens x m all)
    at false is rest = All-cons Opens x (set_in hash_cmp m t a) (All-head Opens x m all) rest

-- one comes
pub insert_open : (t : Hash) (m : ForHash Acquiring) (a : Acquiring) → AreOpen m → IsOpen t a → AreOpen (insert_in hash_cmp m t a)
insert_open t [] a all own = All-cons Opens (t, a) [] own (All-nil Opens)
insert_open t (x ∷ m) a all own = at (hash_cmp t x.0) refl (insert_open t m a (All-tail Opens x m all) own)
  where
    at : (r : Ordering) → hash_cmp t x.0 ≡ r → AreOpen (insert_in hash_cmp m t a)
        → AreOpen (match_ordering r ((t, a) ∷ x ∷ m) ((x.0, a) ∷ m) (x ∷ insert_in hash_cmp m t a))
    at Less is rest = All-cons Opens (t, a) (x ∷ m) own all
    at Equal is rest = All-cons Opens (x.0, a) m (subst (λ h. IsOpen h a) (exact_bytes t x.0 is) own) (All-tail Opens x m all)
    at Greater is rest = All-cons Opens x (insert_in hash_cmp m t a) (All-head Opens x m all) rest

-- one goes
pub remove_open : (t : Hash) (m : ForHash Acquiring) → AreOpen m → AreOpen (remove_in hash_cmp m t)
remove_open t [] all = All-nil Opens
remove_open t (x ∷ m) all = at (eq_by_cmp hash_cmp t x.0) (remove_open t m (All-tail Opens x m all))
  where
    at : (b : Bool) → AreOpen (remove_in hash_cmp m t) → AreOpen (cond b m (x ∷ remove_in hash_cmp m t))
    at true rest = All-tail Opens x m all
    at false rest = All-cons Opens x (remove_in hash_cmp m t) (All-head Opens x m all) rest

-- what has changed goes as it would have gone before
pub remove_set : {K X : Type 0} (test : K → Bool) (m : List (K × X)) (x : X)
    → remove_entry test (set_value test m x) ≡ remove_entry test m
remove_set test [] x = refl
remove_set {K} {X} test (e ∷ m) x = at (test e.0) refl (remove_set test m x)
  where
    at : (b : Bool) → test e.0 ≡ b → remove_entry test (set_value test m x) ≡ remove_entry test m
        → remove_entry test (cond b ((e.0, x) ∷ m) (e ∷ set_value test m x)) ≡ cond b m (e ∷ remove_entry test m)
    at true is rest = ap (λ b. cond b m ((e.0, x) ∷ remove_entry test m)) is
    at false is rest =
        ap (λ b. cond b (set_value test m x) (e ∷ remove_entry test (set_value test m x))) is ∙ ap (λ more. e ∷ more) rest

-- a peer that joins, or is charged, and a check leave it open
pub peers_open : (t : Hash) (a : Acquiring) (peers : Peers) → peers.ticks ≡ a.peers.ticks → IsOpen t a
    → IsOpen t (record a { peers = peers })
peers_open t a peers same open_ = record { own = open_.own; awaited = omega (arith, same, open_.awaited) }

-- a peer that joins is no tick
joining_stays : (peers : Peers) (p : ℕ) → (after_adding peers p).ticks ≡ peers.ticks
joining_stays peers p = at (was_added peers p) _ refl
  where
    at : (b : Bool) (more : Peers) → more.ticks ≡ peers.ticks → (if b then peers else more).ticks ≡ peers.ticks
    at true more e = refl
    at false more e = e

pub joined_open : (t : Hash) (a : Acquiring) (p : ℕ) → IsOpen t a → IsOpen t (record a { peers = after_adding a.peers p })
joined_open t a p open_ = peers_open t a (after_adding a.peers p) (joining_stays a.peers p) open_

-- a check
pub judged_open : (t : Hash) (a : Acquiring) (v : Verdict) → IsOpen t a → IsOpen t (after_verdict a v)
judged_open t a complete open_ = open_
judged_open t a (incomplete (asks.Send p places)) open_ = record { own = open_.own; awaited = open_.awaited }
judged_open t a (incomplete (asks.Waiting n)) open_ = open_
judged_open t a (incomplete asks.NoPeer) open_ = open_
judged_open t a (seq_differs asked found) open_ = open_
judged_open t a zero_state open_ = open_
judged_open t a (below_floor floor) open_ = open_
judged_open t a (malformed place fault) open_ = open_

-- charges
outcome_stays : (p : ℕ) (bad : Bool) (peers : Peers) → (after_outcome p bad peers).ticks ≡ peers.ticks
outcome_stays p bad peers = at (bad && is_present peers p)
  where
    at : (b : Bool) → (if b then after_charging peers p else peers).ticks ≡ peers.ticks
    at true = refl
    at false = refl

-- three parts charge at most three times, and no charge is a tick; any other answer leaves the acquisition
pub based_open : (t : Hash) (a a' : Acquiring) (p : ℕ) (r : Result BaseReply OfferFault) → acquire.TakesBase a p r a' → IsOpen t a →
    IsOpen t a'
based_open t a a' p (Ok (base.Parts h x y)) takes open_ =
    let first : Peers = after_outcome p (is_bad_head h) a.peers in
    let state : Bool = is_bad_root x in
    let tx : Bool = is_bad_root y in
    let second : Peers = after_outcome p state first in
    subst (IsOpen t) (sym takes.after)
    (peers_open t a (after_outcome p tx second)
    (outcome_stays p tx second ∙ outcome_stays p state first ∙ outcome_stays p (is_bad_head h) a.peers) open_)
based_open t a a' p (Ok base.Unasked) takes open_ = subst (IsOpen t) (sym takes.after) open_
based_open t a a' p (Ok base.NotOpen) takes open_ = subst (IsOpen t) (sym takes.after) open_
based_open t a a' p (Err e) takes open_ = subst (IsOpen t) (sym takes.after) open_

-- a node charges at most once
pub noded_open : (t : Hash) (a a' : Acquiring) (p : ℕ) (r : Result NodeReply OfferFault) → acquire.TakesNode a p r a' → IsOpen t a
    → IsOpen t a'
noded_open t a a' p (Ok (node.One o)) takes open_ =
    subst (IsOpen t) (sym takes.after)
    (peers_open t a (after_outcome p (is_bad o) a.peers) (outcome_stays p (is_bad o) a.peers) open_)
noded_open t a a' p (Ok node.Unasked) takes open_ = subst (IsOpen t) (sym takes.after) open_
noded_open t a a' p (Ok node.NotOpen) takes open_ = subst (IsOpen t) (sym takes.after) open_
noded_open t a a' p (Err e) takes open_ = subst (IsOpen t) (sym takes.after) open_

-- a tick that doesn't give up
pub ticked_open : (t : Hash) (a : Acquiring) (n : ℕ) → replies.tick_said (ticked a.peers) ≡ told.Timeout n → IsOpen t a
    → IsOpen t (record a { peers = after_tick a.peers })
ticked_open t a n e open_ = record { own = open_.own; awaited = at (a.peers.ticks + 1 == 7) refl e }
  where
    at : (b : Bool) → (a.peers.ticks + 1 == 7) ≡ b
        → replies.tick_said (if b then ticks.GaveUp 7 else ticks.Timeout (a.peers.ticks + 1)) ≡ told.Timeout n
        → a.peers.ticks + 1 < 7
    at true is e = cc
    at false is e = let other : a.peers.ticks + 1 ≢ 7 = grind (arith, nat_tests) in omega (arith, other, open_.awaited)

-- the state after, where the acquisitions alone have changed
module _ (t : Hash) (d0 d : Desk) (e : d0 ≡ d) (n : ForHash Acquiring) where
  -- one ends
  pub removed_desk : n ≡ remove_in hash_cmp d0.state.wanted t → record d0.state { wanted = n } ≡ ended d.state t
  removed_desk is = ap (λ (m : ForHash Acquiring). record d0.state { wanted = m }) is ∙ ap (λ (x : Desk). ended x.state t) e

  -- one changes
  pub changed_desk : (a : Acquiring) (change : Desk → Acquiring → Acquiring) → get_in hash_cmp d0.state.wanted t ≡ Some a
      → n ≡ set_in hash_cmp d0.state.wanted t (change d0 a) → record d0.state { wanted = n } ≡ with_wanted d.state t (change d)
  changed_desk a change at is =
      ap (λ (m : ForHash Acquiring). record d0.state { wanted = m }) is ∙ (rw at refl)
      ∙ ap (λ (x : Desk). with_wanted x.state t (change x)) e

  -- one changes, and the store
  pub taken_desk : (st : Store) (a : Acquiring) → n ≡ set_in hash_cmp d0.state.wanted t a
      → record (over st d0.state) { wanted = n } ≡ record (over st d.state) { wanted = set_in hash_cmp d.state.wanted t a }
  taken_desk st a is =
      ap (λ (m : ForHash Acquiring). record (over st d0.state) { wanted = m }) is
      ∙ ap (λ (x : Desk). record (over st x.state) { wanted = set_in hash_cmp x.state.wanted t a }) e
