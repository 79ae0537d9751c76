use Rattle.std.proofs.Common.{◌≡◌, ◌≤◌}
use Rattle.swarm_gen.specs.Ledgers.{state_of}
use Rattle.swarm_gen.specs.Standing.{AreStates}
use Rattle.map_changes.specs.Tracking.{leaves_in, items_in, versions_in}
use Rattle.swarm_gen.proofs.state.all_states.Given as goal

abbrev pub invariant-loop-j : goal.invariant-loop-j
invariant-loop-j g l = record {
  low : 1 ≤ l.j;
  items : items_in l.states ≡ state_of g.H.NodeHash.half l.plan l.j;
  states : AreStates g.H.NodeHash.half l.plan l.j (leaves_in l.states) (versions_in l.states);
}
