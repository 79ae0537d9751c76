-- the transactions' map is set over no source, so over each
use Rattle.std.proofs.Common.{OnOk, refl, subst, ◌∙◌}
use Rattle.std.specs.FinMap as finite
use Rattle.cow_map.specs.Edits.{SetsItem}
use Rattle.path_proof.specs.Sources.{no_nodes}
use Rattle.edit_session.specs.Drafts.{Draft}
use Rattle.edit_session.specs.Changes.{SetsTx}
use Rattle.edit_session.proofs.Leaving.{alone_still, set_tx, on_ok}
use Rattle.edit_session.proofs.session.Session.tx.Goals as goal

-- a put over no source leaves the transactions needing none, and one that fails leaves them as they were
pub invariant_of-self : goal.invariant_of-self
invariant_of-self g c = record {
  next = c.self.invariant.next;
  state = c.self.invariant.state;
  txs = c.put.ensures.grows.kind ∙ c.self.invariant.txs;
  alone = alone_still c.a_map_without_a_source_stands_anywhere.ensures c.put.result g.H.NodeHash.half (finite.get no_nodes)
      c.self.inside.txs c.put.new.self c.args.item.key c.args.item.value
      (c.put.ensures.stands refl) c.put.ensures.err c.self.invariant.alone;
}

-- the transactions need no source, so the item that is set over none is set over each, and the state stays
pub returns-clause-sets : goal.returns-clause-sets
returns-clause-sets g c =
    let half = g.H.NodeHash.half in
    let held = finite.get no_nodes in
    let old : Draft = record {
      base = c.self.inside.base;
      parent = c.self.inside.parent;
      state = c.self.inside.state;
      txs = c.self.inside.txs;
    } in
    let new : Draft = record old { txs = c.put.new.self } in
    let key = c.args.item.key in
    let value = c.args.item.value in
    subst (λ d. OnOk c.put.result (SetsTx d new key value)) c.self.view_is
    (on_ok c.put.result (SetsItem half held old.txs new.txs key value) (SetsTx old new key value) (c.put.ensures.stands refl)
    (set_tx c.a_map_without_a_source_stands_anywhere.ensures half held old new key value refl))
