-- the account state's map is set, and leaves what its nodes reached
use Rattle.std.proofs.Common.{OnOk, refl, subst}
use Rattle.std.specs.FinMap as finite
use Rattle.cow_map.specs.Edits.{SetsItem}
use Rattle.cow_map.specs.Unloaded.{KeepsReach}
use Rattle.cow_map.specs.Ways.{stop_of}
use Rattle.edit_session.specs.Drafts.{Draft}
use Rattle.edit_session.specs.Changes.{GoesBy, SetsAccount}
use Rattle.edit_session.proofs.Leaving.{set, on_both}
use Rattle.edit_session.proofs.session.Session.put.Goals as goal

-- only the state's map is another, which has the item set and leaves to the source only what the old one reached
pub returns-clause-sets : goal.returns-clause-sets
returns-clause-sets g c told =
    let half = g.H.NodeHash.half in
    let stored = finite.get (g.S.NodeSource.stored c.args.source.now) in
    let old : Draft = record {
      base = c.self.inside.base;
      parent = c.self.inside.parent;
      state = c.self.inside.state;
      txs = c.self.inside.txs;
    } in
    let new : Draft = record old { state = c.put.new.self } in
    let key = c.args.item.key in
    let value = c.args.item.value in
    subst (λ d. OnOk c.put.result (SetsAccount half stored d new key value)) c.self.view_is
    (on_both c.put.result (SetsItem half stored old.state new.state key value) (KeepsReach half stored old.state new.state)
    (SetsAccount half stored old new key value) (c.put.ensures.stands told) (c.put.ensures.edits.reach told)
    (set c.what_is_left_is_whole.ensures half stored old new key value refl))

-- only the state's map is asked, so what stops that stops the session
pub returns-clause-way : goal.returns-clause-way
returns-clause-way g c told =
    let half = g.H.NodeHash.half in
    let stored = finite.get (g.S.NodeSource.stored c.args.source.now) in
    subst (λ (d : Draft). GoesBy half stored d (stop_of half stored d.state c.args.item.key) c.put.result) c.self.view_is
    (record {
      way = c.put.ensures.edits.way told;
      free = λ accounts txs edits. c.put.ensures.edits.free told accounts edits.state;
    })
