use Rattle.std.proofs.Common.{◌≡◌, ◌++◌, map}
use Rattle.std.specs.Map.Iter.{deref_pair}
use Rattle.swarm_gen.proofs.state.listed.Given as goal

abbrev pub invariant-loop-key : goal.invariant-loop-key
invariant-loop-key l = record {
  items : l.listed.items ≡ map deref_pair l.yielded;
  split : map deref_pair l.yielded ++ l.key-iterator ≡ l.owners.entries;
}
