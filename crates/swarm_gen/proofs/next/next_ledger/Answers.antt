use Rattle.std.proofs.Common.{◌++◌, ap, sym, ◌∙◌, rules}
use Rattle.std.specs.Prelude.{◌&&◌}
use Rattle.std.specs.List.{list_all}
use Rattle.ledger_spec.specs.Bytes.{Bytes, is_nonzero}
use Rattle.ledger_spec.specs.Forms.{header_prefix}
use Rattle.swarm_gen.specs.declared.lines.Head.{Head}
use Rattle.map_changes.specs.declared.tracked.PlacedNode.{PlacedNode}
use Rattle.swarm_gen.specs.Adding.{ledger_from}
use Rattle.swarm_gen.proofs.Making.{Known, some_case, header_is, hash_is, header_at, made_where, state_made, ledger_is}
use Rattle.swarm_gen.proofs.next.next_ledger.Goals as goal

-- a changed node or the header has the zero hash, so the ledger isn't made
pub returns-then-not-is_fine-clause-made : goal.returns-then-not-is_fine-clause-made
returns-then-not-is_fine-clause-made g c =
    let half = g.H.NodeHash.half in
    let plan = c.args.plan.now in
    let seq = c.args.seq in
    let x = c.in-Some.changes in
    let r = some_case _ _ _ x c.in-Some.is c.in_ok-changes.ensures in
    let bytes = header_is half plan seq c.args.parent x.tx_root.hash x.state_root.hash r.tx_root.is_hash r.state_root.is_hash in
    let known : Known half plan seq x.state_root x.tx_root x.state_nodes.items x.tx_nodes.items c.hash-hash.result = record {
      some_state = r.some_state;
      some_tx = r.some_tx;
      state_root = r.state_root;
      tx_root = r.tx_root;
      state_changes = r.state_changes;
      tx_changes = r.tx_changes;
      nonzero = c.requires.nonzero;
      is_hash = c.hash-hash.ensures ∙ ap (λ (b : Bytes). half (header_prefix ++ b)) bytes
          ∙ hash_is half plan seq c.args.parent c.requires.among.seq.0 c.requires.parent;
    } in
    let made = made_where half plan seq x.state_root x.tx_root x.state_nodes.items x.tx_nodes.items c.hash-hash.result known in
    let fine = c.is_fine.ensures ∙ (λ i. list_all (λ (p : PlacedNode). is_nonzero p.hash) (c.deref.ensures.value i)
    && list_all (λ (p : PlacedNode). is_nonzero p.hash) (c.deref-2.ensures.value i) && is_nonzero c.hash-hash.result) in
    made ∙ sym fine ∙ c.if-not-is_fine.true

-- both maps have entries and no node, old or changed, has the zero hash, nor has the header, so just this ledger is made
pub returns-clause-made : goal.returns-clause-made
returns-clause-made g c =
    let half = g.H.NodeHash.half in
    let plan = c.args.plan.now in
    let seq = c.args.seq in
    let x = c.in-Some.changes in
    let r = some_case _ _ _ x c.in-Some.is c.in_ok-changes.ensures in
    let bytes = header_is half plan seq c.args.parent x.tx_root.hash x.state_root.hash r.tx_root.is_hash r.state_root.is_hash in
    let known : Known half plan seq x.state_root x.tx_root x.state_nodes.items x.tx_nodes.items c.hash-hash.result = record {
      some_state = r.some_state;
      some_tx = r.some_tx;
      state_root = r.state_root;
      tx_root = r.tx_root;
      state_changes = r.state_changes;
      tx_changes = r.tx_changes;
      nonzero = c.requires.nonzero;
      is_hash = c.hash-hash.ensures ∙ ap (λ (b : Bytes). half (header_prefix ++ b)) bytes
          ∙ hash_is half plan seq c.args.parent c.requires.among.seq.0 c.requires.parent;
    } in
    let made = made_where half plan seq x.state_root x.tx_root x.state_nodes.items x.tx_nodes.items c.hash-hash.result known in
    let fine = c.is_fine.ensures ∙ (λ i. list_all (λ (p : PlacedNode). is_nonzero p.hash) (c.deref.ensures.value i)
    && list_all (λ (p : PlacedNode). is_nonzero p.hash) (c.deref-2.ensures.value i) && is_nonzero c.hash-hash.result) in record {
      made = made ∙ sym fine ∙ c.if-not-is_fine.false;
      ledger = ap (λ (h : Head). ledger_from h c.in_ok-next_of.field-0.state_nodes.items c.in_ok-next_of.field-0.tx_nodes.items)
          c.in_ok-next_of.ensures.head
          ∙ ledger_is half plan seq x.state_root x.tx_root x.state_nodes.items x.tx_nodes.items c.hash-hash.result
          c.in_ok-from_slice.field-0 c.in_ok-next_of.field-0.state_nodes.items c.in_ok-next_of.field-0.tx_nodes.items known
          (c.in_ok-from_slice.ensures ∙ c.encode.ensures.bytes ∙ bytes ∙ header_at half plan seq c.args.parent c.requires.parent)
          c.in_ok-next_of.ensures.state c.in_ok-next_of.ensures.tx;
      target = search rules;
      state = c.in_ok-next_of.ensures.maps.0;
      tx = c.in_ok-next_of.ensures.maps.1;
    }

-- in a ledger that is made no node of the state has the zero hash
pub returns-clause-nonzero : goal.returns-clause-nonzero
returns-clause-nonzero g c =
    let half = g.H.NodeHash.half in
    let plan = c.args.plan.now in
    let seq = c.args.seq in
    let x = c.in-Some.changes in
    let r = some_case _ _ _ x c.in-Some.is c.in_ok-changes.ensures in
    let bytes = header_is half plan seq c.args.parent x.tx_root.hash x.state_root.hash r.tx_root.is_hash r.state_root.is_hash in
    let known : Known half plan seq x.state_root x.tx_root x.state_nodes.items x.tx_nodes.items c.hash-hash.result = record {
      some_state = r.some_state;
      some_tx = r.some_tx;
      state_root = r.state_root;
      tx_root = r.tx_root;
      state_changes = r.state_changes;
      tx_changes = r.tx_changes;
      nonzero = c.requires.nonzero;
      is_hash = c.hash-hash.ensures ∙ ap (λ (b : Bytes). half (header_prefix ++ b)) bytes
          ∙ hash_is half plan seq c.args.parent c.requires.among.seq.0 c.requires.parent;
    } in
    let made = made_where half plan seq x.state_root x.tx_root x.state_nodes.items x.tx_nodes.items c.hash-hash.result known in
    let fine = c.is_fine.ensures ∙ (λ i. list_all (λ (p : PlacedNode). is_nonzero p.hash) (c.deref.ensures.value i)
    && list_all (λ (p : PlacedNode). is_nonzero p.hash) (c.deref-2.ensures.value i) && is_nonzero c.hash-hash.result) in
    state_made half plan seq (made ∙ sym fine ∙ c.if-not-is_fine.false)
