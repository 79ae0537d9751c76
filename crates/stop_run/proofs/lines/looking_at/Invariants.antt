use Rattle.std.proofs.Common.{◌≡◌, ◌+◌, ◌++◌, drop}
use Rattle.stop_run.specs.Looking.{lines_behind, lines_for}
use Rattle.stop_run.proofs.lines.looking_at.Given as goal

-- the lines so far, and those of the ledgers that are left
abbrev pub invariant-loop-hash : goal.invariant-loop-hash
invariant-loop-hash l = record {
  number : l.number ≡ l.hash-index + l.hash-index;
  lines : l.lines.items ++ lines_behind l.number (drop l.hash-index l.hashes) ≡ lines_for l.hashes;
}
