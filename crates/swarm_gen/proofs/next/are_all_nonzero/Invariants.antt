use Rattle.std.proofs.Common.{◌≡◌, true, take}
use Rattle.std.specs.List.{list_all}
use Rattle.ledger_spec.specs.Bytes.{is_nonzero}
use Rattle.swarm_gen.proofs.next.are_all_nonzero.Given as goal

abbrev pub invariant-loop-node : goal.invariant-loop-node
invariant-loop-node l = list_all (λ p. is_nonzero p.hash) (take l.node-index l.nodes) ≡ true
