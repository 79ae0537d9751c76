use Rattle.std.proofs.Common.{◌-◌, List, [], ap, sym, ◌∙◌}
use Rattle.std.specs.List.{slice_index_or}
use Rattle.ledger_spec.specs.declared.Kind.TheVariants.{State, Tx}
use Rattle.ledger_spec.specs.Bytes.{Items}
use Rattle.swarm_gen.specs.Ledgers.{state_of, txs_of}
use Rattle.map_changes.specs.Placed.{nodes_of}
use Rattle.map_changes.specs.Tracking.{version_at}
use Rattle.map_changes.proofs.shared.Changed.{no_nodes}
use Rattle.swarm_gen.specs.Swarm.{nodes_before}
use Rattle.swarm_gen.proofs.Making.{some_case, none_case, root_as, not_empty_as, nodes_as, unmade_state, unmade_tx}
use Rattle.swarm_gen.proofs.Standing.{state_at, before_at}
use Rattle.swarm_gen.proofs.next.take_all.Goals as goal

-- each map tells its root and its changes, and both have entries
pub returns : goal.returns
returns g c =
    let half = g.H.NodeHash.half in
    let plan = c.args.plan.now in
    let seq = c.args.seq in
    let a = c.requires in
    let s = some_case _ _ _ c.in-Some.state_root c.in-Some.is c.in_ok-state_root.ensures in
    let t = some_case _ _ _ c.in-Some-2.tx_root c.in-Some-2.is c.in_ok-tx_root.ensures in
    let v = state_at half plan plan.ledgers seq _ a.states.states a.seq.0 a.seq.1 in
    let b = ap (λ k. nodes_of half k (version_at c.args.states.now (seq - 1))) a.states.leaves
    ∙ before_at half plan plan.ledgers seq _ a.states.states a.seq.0 a.seq.1 in
    let leaves = c.hash_all.ensures.kind ∙ c.in_ok-txs.ensures.0 in
    let versions = c.hash_all.ensures.versions ∙ c.in_ok-txs.ensures.1 in
    let w = ap (λ (vs : List Items). slice_index_or vs 1 []) versions in
    let d = (λ i. nodes_of half (leaves i) (slice_index_or (versions i) 0 [])) ∙ no_nodes half Tx in record {
      some_state = not_empty_as _ (state_of half plan seq) v s.0;
      some_tx = not_empty_as _ (txs_of half plan seq) w t.0;
      state_root = root_as half _ State _ (state_of half plan seq) c.in-Some.state_root a.states.leaves v s.1;
      tx_root = root_as half _ Tx _ (txs_of half plan seq) c.in-Some-2.tx_root leaves w t.1;
      state_changes = c.in_ok-state_nodes.ensures ∙ nodes_as half _ (nodes_before half plan seq) _ State _ (state_of half plan seq)
          b a.states.leaves v;
      tx_changes = c.in_ok-tx_nodes.ensures ∙ nodes_as half _ [] _ Tx _ (txs_of half plan seq) d leaves w;
    }

-- a ledger with an empty map isn't made
pub returns-in_default : goal.returns-in_default
returns-in_default g c =
    let plan = c.args.plan.now in
    let a = c.requires in
    unmade_state g.H.NodeHash.half plan c.args.seq
    (sym (state_at g.H.NodeHash.half plan plan.ledgers c.args.seq _ a.states.states a.seq.0 a.seq.1)
    ∙ none_case _ _ _ c.in_default.is c.in_ok-state_root.ensures)

pub returns-in_default-2 : goal.returns-in_default-2
returns-in_default-2 g c =
    let versions = c.hash_all.ensures.versions ∙ c.in_ok-txs.ensures.1 in
    unmade_tx g.H.NodeHash.half c.args.plan.now c.args.seq
    (sym (ap (λ (vs : List Items). slice_index_or vs 1 []) versions) ∙ none_case _ _ _ c.in_default-2.is c.in_ok-tx_root.ensures)
