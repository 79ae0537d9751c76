use Rattle.std.proofs.Common.{◌≡◌, ◌++◌, map}
use Rattle.std.specs.Map.Iter.{deref_pair}
use Rattle.cow_map.specs.Gathered.{entries_of}
use Rattle.swarm_gen.proofs.Owners.{on, data_in}
use Rattle.swarm_gen.proofs.state.first_state.Given as goal

abbrev pub invariant-loop-key : goal.invariant-loop-key
invariant-loop-key g l = record {
  items : entries_of l.items.items ≡ map (on (data_in 1)) (map deref_pair l.yielded);
  split : map deref_pair l.yielded ++ l.key-iterator ≡ l.owners.entries;
}
