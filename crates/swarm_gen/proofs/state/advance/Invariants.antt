use Rattle.std.proofs.Common.{◌≡◌, ◌++◌, ◌-◌, drop, map, take}
use Rattle.swarm_gen.proofs.Owners.{on, data_in}
use Rattle.map_changes.specs.Tracking.{leaves_in, items_in, versions_in}
use Rattle.swarm_gen.proofs.state.advance.Given as goal

abbrev pub invariant-loop-key : goal.invariant-loop-key
invariant-loop-key g l = record {
  leaves : leaves_in l.state ≡ leaves_in l.fn.state;
  items : items_in l.state ≡ map (on (data_in l.seq)) (take l.key-index l.owners)
      ++ map (on (data_in (l.seq - 1))) (drop l.key-index l.owners);
  versions : versions_in l.state ≡ versions_in l.fn.state;
}
