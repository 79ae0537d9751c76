use Rattle.std.proofs.Common.{◌≡◌, ℕ, ◌∷◌, ◌++◌, List, [], ap, ◌∙◌, subst, arith}
use Rattle.ledger_spec.specs.Bytes.{Items}
use Rattle.swarm_gen.specs.Ledgers.{state_of}
use Rattle.swarm_gen.specs.Standing.{AreStates}
use Rattle.map_changes.specs.Tracking.{leaves_in, versions_in}
use Rattle.swarm_gen.proofs.Adds.{mapped_more_from}
use Rattle.swarm_gen.proofs.state.all_states.Goals as goal

-- the state of ledger 1 is kept
pub loop-j-init : goal.loop-j-init
loop-j-init g c =
    let f = c.in_ok-states.ensures in
    let k = c.in_ok-keep.ensures in
    record {
      low = omega arith;
      items = k.items ∙ f.is_state;
      states = record { leaves = k.kind ∙ f.leaves; states = k.versions ∙ (λ i. f.before i ++ f.is_state i ∷ []) };
    }

-- the next ledger's is kept behind it
pub loop-j-preserved : goal.loop-j-preserved
loop-j-preserved g c =
    let i = c.loop-j.invariant in
    let a = c.in_ok-advance.ensures in
    let k = c.in_ok-keep-2.ensures in
    let state : ℕ → Items = state_of g.H.NodeHash.half c.args.plan.now in
    record {
      low = omega arith;
      items = k.items ∙ a.items;
      states = record {
        leaves = k.kind ∙ a.rest.leaves ∙ i.states.leaves;
        states = k.versions ∙ (λ n. (a.rest.versions ∙ i.states.states) n ++ a.items n ∷ [])
            ∙ ap (λ (x : List Items). [] ∷ x) (mapped_more_from state c.loop-j.j);
      };
    }

-- they are those of all ledgers
pub returns : goal.returns
returns g c =
    let end : c.loop-j.j ≡ c.args.plan.now.ledgers = omega (arith, c.requires.ledgers.0) in
    subst (λ n. AreStates g.H.NodeHash.half c.args.plan.now n (leaves_in c.loop-j.states) (versions_in c.loop-j.states)) end
    c.loop-j.invariant.states
