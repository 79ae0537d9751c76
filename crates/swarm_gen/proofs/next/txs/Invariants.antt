use Rattle.std.proofs.Common.{◌≡◌, ◌+◌, ◌*◌, map, [], ◌∷◌}
use Rattle.std.specs.List.{range_with_len}
use Rattle.ledger_spec.specs.declared.Kind.TheVariants.{Tx}
use Rattle.swarm_gen.specs.Ledgers.{key, eight, map_from}
use Rattle.map_changes.specs.Tracking.{leaves_in, items_in, versions_in}
use Rattle.swarm_gen.proofs.next.txs.Given as goal

abbrev pub invariant-loop-m : goal.invariant-loop-m
invariant-loop-m g l = record {
  leaves : leaves_in l.txs ≡ Tx;
  items : items_in l.txs ≡ map_from [] (map (λ m. (key g.H.NodeHash.half l.plan (4294967296 + 16 * l.seq + m), eight m))
      (range_with_len 0 l.m));
  versions : versions_in l.txs ≡ [] ∷ [];
}
