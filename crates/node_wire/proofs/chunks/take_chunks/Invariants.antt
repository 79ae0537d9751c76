use Rattle.std.proofs.Common.{◌≡◌, ◌/◌, ◌%◌, length}
use Rattle.ledger_spec.specs.Wire.{chunks_in}
use Rattle.node_wire.specs.Faults.{all_chunks}
use Rattle.node_wire.proofs.Taking.{no_slots, outcome}
use Rattle.node_wire.proofs.chunks.take_chunks.Given as goal

-- the rest of the chunks makes of the branches so far what all make of empty ones
abbrev pub invariant-loop-rest : goal.invariant-loop-rest
invariant-loop-rest l = record {
  whole : length l.rest % 33 ≡ 0;
  same : outcome l.hashes (chunks_in (length l.rest / 33) l.rest) ≡ outcome no_slots (all_chunks l.fn.front);
}

abbrev pub decreases-loop-rest : goal.decreases-loop-rest
decreases-loop-rest l = length l.rest
