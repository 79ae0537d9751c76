use Rattle.std.proofs.Common.{◌≡◌, ◌*◌, take, drop, length}
use Rattle.ledger_spec.specs.Bytes.{hashes_of}
use Rattle.node_wire.proofs.reading.take_full.Given as goal

-- the first hashes are read, and the rest is left
abbrev pub invariant-loop-b : goal.invariant-loop-b
invariant-loop-b l = record {
  size : length l.hashes ≡ 16;
  left : l.rest ≡ drop (32 * l.b) l.fn.front;
  read : take l.b l.hashes ≡ hashes_of l.b l.fn.front;
}
