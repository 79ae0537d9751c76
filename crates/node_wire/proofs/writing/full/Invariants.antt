use Rattle.std.proofs.Common.{◌≡◌, take}
use Rattle.std.specs.List.{concat}
use Rattle.node_wire.proofs.writing.full.Given as goal

-- the hashes so far, joined
abbrev pub invariant-loop-b : goal.invariant-loop-b
invariant-loop-b l = l.bytes.items ≡ concat (take l.b l.inner.hashes)
