use Rattle.std.proofs.Common.{sym, ap, ◌∙◌, refl, Some, Bool, IsTrue, Ok, Err}
use Rattle.open_sessions.proofs.shared.Tables.{not_both, on_err, set_same}
use Rattle.std.specs.FinMap as finite
use Rattle.ledger_spec.specs.Bytes.{Lookup}
use Rattle.ledger_spec.specs.Maps.{ForActor, numbered_cmp, get_in, set_in}
use Rattle.rotating_store.specs.Stores.{nodes_of}
use Rattle.rotating_store.specs.Sources.{own_nodes}
use Rattle.cow_map.specs.Ways.{removal_stop_of}
use Rattle.edit_session.specs.Changes.{GoesBy, RemovesAccount}
use Rattle.edit_session.specs.Drafts.{Draft}
use Rattle.open_sessions.proofs.Stopping.{stopped_by, gone_by}
use Rattle.open_sessions.proofs.open.Open.remove.Goals as goal

-- the lent session was given back as it was
pub returns-in_err-there-clause-err : goal.returns-in_err-there-clause-err
returns-in_err-there-clause-err g c =
    on_err c.from_residual.result ((c.get_mut.follows.holds c.remove.new.self).0
    ∙ set_same c.args.id c.self.inside.sessions.entries c.in-Some.session.now _ (sym c.in-Some.ensures.value) c.in_err-there.ensures.err
    ∙ c.self.view_is)

pub returns-in_err-there-clause-goes : goal.returns-in_err-there-clause-goes
returns-in_err-there-clause-goes g c = record {
  -- what stops the map of the session that was lent stops the call
  way = λ told d is.
      let half = g.H.NodeHash.half in
      let stored : Lookup = finite.get (own_nodes half (nodes_of c.args.store.now)) in
      let way : GoesBy {X = Bool} half stored c.in-Some.session.now (removal_stop_of half stored c.in-Some.session.now.state c.args.key.now)
      (Err c.in_err-there.field-0.0) = rw (← c.new-filed.ensures.same) (c.in_err-there.ensures.way told) in
      stopped_by half stored (λ (x : Draft) key. removal_stop_of half stored x.state key) c.in-Some.session.now d
      (get_in numbered_cmp c.args.self.now c.args.id) c.args.key.now c.args.key.now (rw (← c.self.view_is) c.in-Some.ensures.value)
      is refl _ _ c.in_err-there.field-0.0 c.from_residual.result c.from_residual.ensures.1 way;
  -- a session that was lent is open
  shut = λ none.
      absurd (not_both (get_in numbered_cmp c.args.self.now c.args.id) c.in-Some.session.now none
      (rw (← c.self.view_is) (sym c.in-Some.ensures.value)));
}

pub returns-clause-goes : goal.returns-clause-goes
returns-clause-goes g c = record {
  way = λ told d is.
      let half = g.H.NodeHash.half in
      let stored : Lookup = finite.get (own_nodes half (nodes_of c.args.store.now)) in
      let way : GoesBy {X = Bool} half stored c.in-Some.session.now (removal_stop_of half stored c.in-Some.session.now.state c.args.key.now)
      (Ok c.in_ok-there.there) = rw (← c.new-filed.ensures.same) (c.in_ok-there.ensures.way told) in
      gone_by half stored (λ (x : Draft) key. removal_stop_of half stored x.state key) c.in-Some.session.now d
      (get_in numbered_cmp c.args.self.now c.args.id) c.args.key.now c.args.key.now (rw (← c.self.view_is) c.in-Some.ensures.value)
      is refl _ _ c.in_ok-there.there (Some c.in_ok-there.there) way;
  shut = λ none. tt;
}

-- the session's draft is the next one, over what the store holds
pub returns-clause-changed : goal.returns-clause-changed
returns-clause-changed g c =
    let half = g.H.NodeHash.half in
    let old : Draft = c.in-Some.session.now in
    let stored : Lookup = finite.get (own_nodes half (nodes_of c.args.store.now)) in
    let removes : IsTrue g.Sh.B.Backend.tells → RemovesAccount half stored old c.remove.new.self c.args.key.now c.in_ok-there.there =
    λ told. rw (← c.new-filed.ensures.same) (c.in_ok-there.ensures.removes told) in (
      old,
      c.remove.new.self,
      rw (← c.self.view_is) (sym c.in-Some.ensures.value),
      (c.get_mut.follows.holds c.remove.new.self).0
          ∙ ap (λ (m : ForActor Draft). set_in numbered_cmp m c.args.id c.remove.new.self) c.self.view_is,
      (c.in_ok-there.ensures.rest, removes),
    )
