use Rattle.std.proofs.Common.{◌≡◌, map}
use Rattle.std.specs.List.{filter, range_with_len}
use Rattle.ledger_spec.specs.Bytes.{is_nonzero}
use Rattle.swarm_gen.specs.Ledgers.{key}
use Rattle.swarm_gen.proofs.state.read_keys.Given as goal

abbrev pub invariant-loop-i : goal.invariant-loop-i
invariant-loop-i g l = l.keys.items ≡ filter is_nonzero (map (key g.H.NodeHash.half l.plan) (range_with_len 1 l.i))
