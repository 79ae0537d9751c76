use Rattle.std.proofs.Common.{sym, ap, subst, ◌∙◌, true, IsTrue, Ok, Err}
use Rattle.open_sessions.proofs.shared.Tables.{not_both, on_err, set_same}
use Rattle.std.specs.FinMap as finite
use Rattle.ledger_spec.specs.Bytes.{Bytes, Hash, Lookup}
use Rattle.ledger_spec.specs.Maps.{ForActor, numbered_cmp, get_in, set_in}
use Rattle.rotating_store.specs.Stores.{nodes_of}
use Rattle.rotating_store.specs.Sources.{own_nodes}
use Rattle.cow_map.specs.Ways.{stop_of}
use Rattle.edit_session.specs.Changes.{GoesBy, SetsAccount}
use Rattle.edit_session.specs.Drafts.{Draft}
use Rattle.open_sessions.proofs.Stopping.{stopped_by, gone_by}
use Rattle.open_sessions.proofs.open.Open.put.Goals as goal

-- the lent session was given back as it was
pub returns-in_err-put-clause-err : goal.returns-in_err-put-clause-err
returns-in_err-put-clause-err g c =
    on_err c.from_residual-in_err-put.result ((c.get_mut.follows.holds c.put.new.self).0
    ∙ set_same c.args.id c.self.inside.sessions.entries c.in-Some.session.now _ (sym c.in-Some.ensures.value) c.in_err-put.ensures.err
    ∙ c.self.view_is)

pub returns-in_err-put-clause-goes : goal.returns-in_err-put-clause-goes
returns-in_err-put-clause-goes g c = record {
  -- what stops the map of the session that was lent stops the call
  way = λ told d is.
      let half = g.H.NodeHash.half in
      let stored : Lookup = finite.get (own_nodes half (nodes_of c.args.store.now)) in
      let way : GoesBy {X = Unit {0}} half stored c.in-Some.session.now
      (stop_of half stored c.in-Some.session.now.state c.in_ok-item.item.key)
      (Err c.in_err-put.field-0.0) = rw (← c.new-filed.ensures.same) (c.in_err-put.ensures.way told) in
      stopped_by half stored (λ (x : Draft) key. stop_of half stored x.state key) c.in-Some.session.now d
      (get_in numbered_cmp c.args.self.now c.args.id) c.args.item.now.key c.in_ok-item.item.key
      (rw (← c.self.view_is) c.in-Some.ensures.value) is c.in_ok-item.ensures.same.0 _ _ c.in_err-put.field-0.0
      c.from_residual-in_err-put.result c.from_residual-in_err-put.ensures.1
      way;
  -- a session that was lent is open
  shut = λ none.
      absurd (not_both (get_in numbered_cmp c.args.self.now c.args.id) c.in-Some.session.now none
      (rw (← c.self.view_is) (sym c.in-Some.ensures.value)));
}

pub returns-clause-goes : goal.returns-clause-goes
returns-clause-goes g c = record {
  way = λ told d is.
      let half = g.H.NodeHash.half in
      let stored : Lookup = finite.get (own_nodes half (nodes_of c.args.store.now)) in
      let way : GoesBy {X = Unit {0}} half stored c.in-Some.session.now
      (stop_of half stored c.in-Some.session.now.state c.in_ok-item.item.key)
      (Ok c.in_ok-put.field-0) = rw (← c.new-filed.ensures.same) (c.in_ok-put.ensures.way told) in
      gone_by half stored (λ (x : Draft) key. stop_of half stored x.state key) c.in-Some.session.now d
      (get_in numbered_cmp c.args.self.now c.args.id) c.args.item.now.key c.in_ok-item.item.key
      (rw (← c.self.view_is) c.in-Some.ensures.value) is c.in_ok-item.ensures.same.0 _ _ c.in_ok-put.field-0 true way;
  shut = λ none. tt;
}

-- the session's draft is the next one, over what the store holds
pub returns-clause-changed : goal.returns-clause-changed
returns-clause-changed g c =
    let half = g.H.NodeHash.half in
    let old : Draft = c.in-Some.session.now in
    let stored : Lookup = finite.get (own_nodes half (nodes_of c.args.store.now)) in
    let sets : IsTrue g.Sh.B.Backend.tells → SetsAccount half stored old c.put.new.self c.args.item.now.key c.args.item.now.value =
    λ told. subst (λ (k : Hash). SetsAccount half stored old c.put.new.self k c.args.item.now.value) c.in_ok-item.ensures.same.0
    (subst (λ (v : Bytes). SetsAccount half stored old c.put.new.self c.in_ok-item.item.key v) c.in_ok-item.ensures.same.1
    (rw (← c.new-filed.ensures.same) (c.in_ok-put.ensures.sets told))) in (
      old,
      c.put.new.self,
      rw (← c.self.view_is) (sym c.in-Some.ensures.value),
      (c.get_mut.follows.holds c.put.new.self).0
          ∙ ap (λ (m : ForActor Draft). set_in numbered_cmp m c.args.id c.put.new.self) c.self.view_is,
      (c.in_ok-put.ensures.rest, sets),
    )
