use Rattle.std.proofs.Common.{◌≡◌, ◌*◌, take, drop, length}
use Rattle.ledger_spec.specs.Bytes.{hashes_of}
use Rattle.shamap_node.proofs.forms.hashes_in.Given as goal

-- the first hashes are read, and the rest is left
abbrev pub invariant-loop-b : goal.invariant-loop-b
invariant-loop-b l = record {
  size : length l.hashes ≡ 16;
  left : l.rest ≡ drop (32 * l.b) l.fn.body;
  read : take l.b l.hashes ≡ hashes_of l.b l.fn.body;
}
