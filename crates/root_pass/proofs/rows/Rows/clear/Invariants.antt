use Rattle.std.proofs.Common.{◌≡◌, ◌≢◌, ◌<◌, ℕ}
use Rattle.ledger_spec.specs.Bytes.{zero_hash}
use Rattle.root_pass.specs.Rows.{cell}
use Rattle.root_pass.proofs.rows.Rows.clear.Given as goal

-- the first cells of the row are zero, and the other rows stay
abbrev pub invariant-loop-b : goal.invariant-loop-b
invariant-loop-b l = record {
  zero : (c : ℕ) → c < l.b → cell l.self.cells.items l.row c ≡ zero_hash;
  others : (j c : ℕ) → j ≢ l.row → c < 16 → cell l.self.cells.items j c ≡ cell l.fn.self.cells.items j c;
  depth : l.self.depth ≡ l.fn.self.depth;
}
