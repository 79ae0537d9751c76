use Rattle.std.proofs.Common.{Contains}
use Rattle.ledger_spec.specs.Bytes.{Hash}
use Rattle.copy_walk.specs.Walks.{ShadesSome, shaded}
use Rattle.copy_walk.proofs.Naming.{first_kids}
use Rattle.copy_walk.proofs.walk.CopyWalk.shade_branches.Given as goal

-- the branches so far are shaded
abbrev pub invariant-loop-b : goal.invariant-loop-b
invariant-loop-b l = record {
  some : ShadesSome l.fn.self (first_kids l.fn.form l.b) l.self;
  all : (h : Hash) → Contains (first_kids l.fn.form l.b) h → Contains (shaded l.self) h;
}
