use Rattle.std.proofs.Common.{◌≡◌, List, [], length}
use Rattle.std.specs.Prelude.{reverse}
use Rattle.ledger_spec.specs.Bytes.{Half, Lookup}
use Rattle.full_below.specs.Marking.{AreMarked}
use Rattle.missing_walk.specs.Pending.{Pending, IsFull, Around}
use Rattle.missing_walk.proofs.stack.settle.Given as goal

-- what was closed so far is marked
abbrev pub invariant-loop-opened : goal.invariant-loop-opened
invariant-loop-opened l = record {
  around : (half : Half) (nodes : Lookup) (ps : List Pending) → length ps ≡ l.height → Around half nodes (reverse l.fn.opened.items) ps
      → Around half nodes (reverse l.opened.items) ps;
  marks : (half : Half) (nodes : Lookup) (ps : List Pending) → length ps ≡ l.height → Around half nodes (reverse l.fn.opened.items) ps
      → AreMarked (IsFull half nodes) l.fn.marks → AreMarked (IsFull half nodes) l.marks;
  generation : l.marks.generation ≡ l.fn.marks.generation;
  room : l.marks.entries.cap ≡ l.fn.marks.entries.cap;
  idle : l.fn.opened.items ≡ [] → (l.marks ≡ l.fn.marks) × (l.opened.items ≡ []);
}

abbrev pub decreases-loop-opened : goal.decreases-loop-opened
decreases-loop-opened l = length l.opened.items
