-- the account state's map loses the key, and leaves what its nodes reached
use Rattle.std.proofs.Common.{IfOk, refl, subst}
use Rattle.std.specs.FinMap as finite
use Rattle.cow_map.specs.Edits.{RemovesKey}
use Rattle.cow_map.specs.Unloaded.{KeepsReach}
use Rattle.cow_map.specs.Ways.{removal_stop_of}
use Rattle.edit_session.specs.Drafts.{Draft}
use Rattle.edit_session.specs.Changes.{GoesBy, RemovesAccount}
use Rattle.edit_session.proofs.Leaving.{removed, if_both}
use Rattle.edit_session.proofs.session.Session.remove.Goals as goal

-- only the state's map is another, which lacks the key and leaves to the source only what the old one reached
pub returns-clause-removes : goal.returns-clause-removes
returns-clause-removes g c told =
    let half = g.H.NodeHash.half in
    let stored = finite.get (g.S.NodeSource.stored c.args.source.now) in
    let old : Draft = record {
      base = c.self.inside.base;
      parent = c.self.inside.parent;
      state = c.self.inside.state;
      txs = c.self.inside.txs;
    } in
    let new : Draft = record old { state = c.remove.new.self } in
    let key = c.args.key.now in
    subst (λ d. IfOk c.remove.result (RemovesAccount half stored d new key)) c.self.view_is
    (if_both c.remove.result (RemovesKey half stored old.state new.state key) (RemovesAccount half stored old new key)
    (KeepsReach half stored old.state new.state) (c.remove.ensures.stands told) (c.remove.ensures.edits.reach told)
    (λ there. removed c.what_is_left_is_whole.ensures half stored old new key there refl))

-- only the state's map is asked, so what stops that stops the session
pub returns-clause-way : goal.returns-clause-way
returns-clause-way g c told =
    let half = g.H.NodeHash.half in
    let stored = finite.get (g.S.NodeSource.stored c.args.source.now) in
    subst (λ (d : Draft). GoesBy half stored d (removal_stop_of half stored d.state c.args.key.now) c.remove.result) c.self.view_is
    (record {
      way = c.remove.ensures.edits.way told;
      free = λ accounts txs edits. c.remove.ensures.edits.free told accounts edits.state;
    })
