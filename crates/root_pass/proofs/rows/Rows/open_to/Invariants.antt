use Rattle.std.proofs.Common.{◌≡◌, ◌-◌, ◌≤◌, ◌<◌, length}
use Rattle.ledger_spec.specs.declared.Kind.{Kind}
use Rattle.ledger_spec.specs.Bytes.{Bytes, Hash, Items}
use Rattle.root_pass.specs.Rows.{IsOpen}
use Rattle.root_pass.proofs.rows.Rows.open_to.Given as goal

abbrev pub invariant-loop-self : goal.invariant-loop-self
invariant-loop-self l = record {
  within : l.fn.self.depth < l.depth → l.self.depth ≤ l.depth;
  kept : l.depth ≤ l.fn.self.depth → l.self.depth ≡ l.fn.self.depth;
  stays : (half : Bytes → Hash) (kind : Kind) (items : Items) (key : Hash) → length key ≡ 32
      → IsOpen half kind items key l.fn.self.cells.items l.fn.self.depth → IsOpen half kind items key l.self.cells.items l.self.depth;
}

abbrev pub decreases-loop-self : goal.decreases-loop-self
decreases-loop-self l = l.depth - l.self.depth
