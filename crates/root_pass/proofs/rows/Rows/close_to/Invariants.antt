use Rattle.std.proofs.Common.{◌-◌, ◌≤◌, ◌<◌}
use Rattle.ledger_spec.specs.declared.Kind.{Kind}
use Rattle.ledger_spec.specs.Bytes.{Items}
use Rattle.root_pass.specs.Rows.{IsFull, IsCrowded}
use Rattle.root_pass.proofs.rows.Rows.close_to.Given as goal

abbrev pub invariant-loop-self : goal.invariant-loop-self
invariant-loop-self g l = record {
  within : l.depth ≤ l.fn.self.depth → l.depth ≤ l.self.depth;
  most : l.self.depth ≤ l.fn.self.depth;
  full : (kind : Kind) (items : Items) → (l.depth < l.fn.self.depth → IsCrowded items l.key l.fn.self.depth)
      → IsFull g.H.NodeHash.half kind items l.key l.fn.self.cells.items l.fn.self.depth
      → IsFull g.H.NodeHash.half kind items l.key l.self.cells.items l.self.depth;
  crowded : (items : Items) → IsCrowded items l.key l.fn.self.depth → IsCrowded items l.key l.self.depth;
}

abbrev pub decreases-loop-self : goal.decreases-loop-self
decreases-loop-self g l = l.self.depth - l.depth
