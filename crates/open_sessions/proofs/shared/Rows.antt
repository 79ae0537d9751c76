-- What a change of drafts is to the machine's sessions. For proofs of other crates.
use Rattle.std.proofs.Common.{◌≡◌, if◌then◌else◌, ℕ, Bool, true, false, is_some, Option, None, Some, refl, sym, ap, ◌∙◌, subst}
use Rattle.std.specs.Option.{option_map, option_map_or, unwrap_or}
use Rattle.std.specs.BTreeMap.{is_at}
use Rattle.std.proofs.lemmas.Map.Views.{All-values-set_value, All-values-insert_entry, All-map-remove_entry}
use Rattle.ledger_spec.specs.Maps.{ForActor, hash_cmp, numbered_cmp, get_in, insert_in, set_in, remove_in}
use Rattle.ledger_spec.specs.Bytes.{Bytes, Hash, Half, Lookup, Items}
use Rattle.ledger_spec.specs.Header.{header_bytes}
use Rattle.ledger_spec.specs.Spots.{header_in}
use Rattle.ledger_header.specs.Fields.{fields, Reads}
use Rattle.ledger_header.specs.declared.Header.{Header as Head}
use Rattle.ledger_laws.proofs.shared.SoundTables.{all_found}
use Rattle.edit_session.specs.Drafts.{Draft, Edits, LeavesToParent}
use Rattle.edit_session.specs.Changes.{ChangesState, ChangesTxs, SetsAccount, RemovesAccount, SetsTx}
use Rattle.cow_map.specs.Edits.{IsSub}
use Rattle.ledger_machine.specs.State.{State, Session, form_in}
use Rattle.ledger_machine.specs.declared.commands.DelReply.TheVariants as dels
use Rattle.ledger_machine.specs.Sessions.{after_put, after_tx, after_del, has_session, del_given, del_reply, without_session, with_session}
use Rattle.open_sessions.specs.Changed.{Changed}
use Rattle.open_sessions.specs.Edited.{IsKept, items_in, session_in, with_drafts}
use Rattle.open_sessions.specs.Rows.{AllKept, Gives, del_said}
use Rattle.open_sessions.proofs.shared.Editing.{edited}
use Rattle.open_sessions.proofs.shared.Tables.{over_get, over_has, over_set, over_insert, over_remove}

-- all is held by itself
all_held : (stored : Lookup) → IsSub stored stored
all_held stored h form e = e

module _ (half : Half) (s : State) (old : ForActor Draft) (kept : AllKept half s old) (x : ℕ × ℕ) where
  abbrev pub stored : Lookup
  stored = form_in s

  abbrev pub now : State
  now = with_drafts half s old

  -- the machine's session of the draft
  found : (d : Draft) → get_in numbered_cmp old x ≡ Some d → get_in numbered_cmp now.sessions x ≡ Some (session_in half stored d)
  found d is = over_get (session_in half stored) old x ∙ ap (option_map (session_in half stored)) is

  missing : get_in numbered_cmp old x ≡ None → get_in numbered_cmp now.sessions x ≡ None
  missing is = over_get (session_in half stored) old x ∙ ap (option_map (session_in half stored)) is

  -- a draft that has become another one
  pub set_gives : (d d' : Draft) (change : Session → Session) → get_in numbered_cmp old x ≡ Some d → IsKept half stored d'
      → session_in half stored d' ≡ change (session_in half stored d)
      → Gives half s (set_in numbered_cmp old x d') (with_session now x change)
  set_gives d d' change is fit same = record {
    state =
        ap (λ (es : ForActor Session). record s { sessions = es }) (over_set (session_in half stored) old x d'
        ∙ ap (set_in numbered_cmp now.sessions x) same)
        ∙ sym (ap (λ (o : Option Session). option_map_or
        (λ e. record now { sessions = set_in numbered_cmp now.sessions x (change e) }) o now)
        (found d is));
    kept = All-values-set_value _ (IsKept half stored) old d' kept fit;
  }

  -- no draft has changed
  pub same_gives : (new : ForActor Draft) (change : Session → Session) → get_in numbered_cmp old x ≡ None → new ≡ old
      → Gives half s new (with_session now x change)
  same_gives new change none same = record {
    state =
        ap (with_drafts half s) same
        ∙ sym (ap (λ (o : Option Session). option_map_or
        (λ e. record now { sessions = set_in numbered_cmp now.sessions x (change e) }) o now)
        (missing none));
    kept = subst (λ (ds : ForActor Draft). AllKept half s ds) (sym same) kept;
  }

  has_of : (o : Option Draft) (b : Bool) → get_in numbered_cmp old x ≡ o → is_some o ≡ b → b ≡ has_session now x
  has_of o b is e = sym e ∙ sym (ap is_some is) ∙ sym (over_has (session_in half stored) old x)

  -- a draft of the same ledger that edits other maps
  next_fits : (d d' : Draft) (accounts txs : Items) → IsKept half stored d → d'.base ≡ d.base → d'.parent ≡ d.parent
      → Edits half stored d' accounts txs → LeavesToParent half stored d'
      → IsKept half stored d' × (session_in half stored d' ≡ record { base = d.base; accounts = accounts; txs = txs })
  next_fits d d' accounts txs k base parent e left =
      let is = edited half stored d' accounts txs e in (
        record {
          header = ap (header_in stored) base ∙ k.header ∙ sym (ap (λ (h : Head). Some (header_bytes (fields h))) parent);
          reads = subst (λ (h : Head). Reads (header_bytes (fields h)) h) (sym parent) k.reads;
          edits = subst (λ (a : Items). Edits half stored d' a (items_in half stored d'.txs)) is.0
              (subst (λ (t : Items). Edits half stored d' accounts t) is.1 e);
          left = left;
        },
        λ i. record { base = base i; accounts = sym is.0 i; txs = sym is.1 i },
      )

  kept_at : (d : Draft) → get_in numbered_cmp old x ≡ Some d → IsKept half stored d
  kept_at d is = all_found (IsKept half stored) (is_at (numbered_cmp x)) old d kept is

  -- an item is set in the account state
  pub put_gives : (new : ForActor Draft) (was : Bool) (key bytes : Bytes)
      → Changed (λ d d'. ChangesState 65 d d' × SetsAccount half stored d d' key bytes) old new x was
      → (was ≡ has_session now x) × Gives half s new (after_put now x key bytes)
  put_gives new false key bytes c = (has_of None false c.0 refl, same_gives new _ c.0 c.1)
  put_gives new true key bytes c =
      let d : Draft = c.0 in
      let d' : Draft = c.1 in
      let k : IsKept half stored d = kept_at d c.2 in
      let fit = next_fits d d' (insert_in hash_cmp (items_in half stored d.state) key bytes) (items_in half stored d.txs) k
      (ap (λ (y : Draft). y.base) c.4.0.rest) (ap (λ (y : Draft). y.parent) c.4.0.rest)
      (c.4.1.maps stored (all_held stored) (items_in half stored d.state) (items_in half stored d.txs) k.edits)
      (c.4.1.left (items_in half stored d.state) (items_in half stored d.txs) k.edits k.left) in (
        has_of (Some d) true c.2 refl,
        subst (λ (m : ForActor Draft). Gives half s m (after_put now x key bytes)) (sym c.3)
            (set_gives d d' (λ e. record e { accounts = insert_in hash_cmp e.accounts key bytes }) c.2 fit.0 fit.1),
      )

  -- an item is set in the transactions
  pub tx_gives : (new : ForActor Draft) (was : Bool) (key bytes : Bytes)
      → Changed (λ d d'. ChangesTxs 65 d d' × SetsTx d d' key bytes) old new x was
      → (was ≡ has_session now x) × Gives half s new (after_tx now x key bytes)
  tx_gives new false key bytes c = (has_of None false c.0 refl, same_gives new _ c.0 c.1)
  tx_gives new true key bytes c =
      let d : Draft = c.0 in
      let d' : Draft = c.1 in
      let k : IsKept half stored d = kept_at d c.2 in
      let fit = next_fits d d' (items_in half stored d.state) (insert_in hash_cmp (items_in half stored d.txs) key bytes) k
      (ap (λ (y : Draft). y.base) c.4.0.rest) (ap (λ (y : Draft). y.parent) c.4.0.rest)
      (c.4.1.maps half stored (items_in half stored d.state) (items_in half stored d.txs) k.edits)
      (c.4.1.left half stored (items_in half stored d.state) (items_in half stored d.txs) k.edits k.left) in (
        has_of (Some d) true c.2 refl,
        subst (λ (m : ForActor Draft). Gives half s m (after_tx now x key bytes)) (sym c.3)
            (set_gives d d' (λ e. record e { txs = insert_in hash_cmp e.txs key bytes }) c.2 fit.0 fit.1),
      )

  -- a key is removed from the account state
  pub del_gives : (new : ForActor Draft) (there : Option Bool) (key : Hash)
      → Changed (λ d d'. ChangesState 64 d d' × RemovesAccount half stored d d' key (unwrap_or there false)) old new x (is_some there)
      → (del_said there ≡ del_reply now x key) × Gives half s new (after_del now x key)
  del_gives new None key c = (sym (ap (del_given key) (missing c.0)), same_gives new _ c.0 c.1)
  del_gives new (Some there) key c =
      let d : Draft = c.0 in
      let d' : Draft = c.1 in
      let k : IsKept half stored d = kept_at d c.2 in
      let e = c.4.1.maps stored (all_held stored) (items_in half stored d.state) (items_in half stored d.txs) k.edits in
      let fit = next_fits d d' (remove_in hash_cmp (items_in half stored d.state) key) (items_in half stored d.txs) k
      (ap (λ (y : Draft). y.base) c.4.0.rest) (ap (λ (y : Draft). y.parent) c.4.0.rest) e.1
      (c.4.1.left (items_in half stored d.state) (items_in half stored d.txs) k.edits k.left) in (
        said there ∙ ap (λ (t : Bool). if t then dels.Fine else dels.Absent) e.0 ∙ sym (ap (del_given key) (found d c.2)),
        subst (λ (m : ForActor Draft). Gives half s m (after_del now x key)) (sym c.3)
            (set_gives d d' (λ y. record y { accounts = remove_in hash_cmp y.accounts key }) c.2 fit.0 fit.1),
      )
    where
      said : (t : Bool) → del_said (Some t) ≡ (if t then dels.Fine else dels.Absent)
      said true = refl
      said false = refl

  -- a session has ended
  pub end_gives : Gives half s (remove_in numbered_cmp old x) (without_session now x)
  end_gives = record {
    state = ap (λ (es : ForActor Session). record s { sessions = es }) (over_remove (session_in half stored) old x);
    kept = All-map-remove_entry _ (λ e. e.1) (IsKept half stored) old kept;
  }

  -- a session is opened
  pub open_gives : (d : Draft) → IsKept half stored d
      → Gives half s (insert_in numbered_cmp old x d)
      (record now { sessions = insert_in numbered_cmp now.sessions x (session_in half stored d) })
  open_gives d fit = record {
    state = ap (λ (es : ForActor Session). record s { sessions = es }) (over_insert (session_in half stored) old x d);
    kept = All-values-insert_entry numbered_cmp x d (IsKept half stored) old kept fit;
  }
