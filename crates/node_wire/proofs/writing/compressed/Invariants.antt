use Rattle.std.proofs.Common.{◌≡◌}
use Rattle.std.specs.List.{flat_map}
use Rattle.ledger_spec.specs.Wire.{chunk_bytes}
use Rattle.node_wire.proofs.Written.{chunks_from}
use Rattle.node_wire.proofs.writing.compressed.Given as goal

-- the chunks of the branches so far
abbrev pub invariant-loop-b : goal.invariant-loop-b
invariant-loop-b l = l.bytes.items ≡ flat_map chunk_bytes (chunks_from l.inner.hashes 0 l.b)
