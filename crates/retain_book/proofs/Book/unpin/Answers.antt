use Rattle.retain_book.proofs.Counts.{less_pinned}
use Rattle.retain_book.proofs.Book.unpin.Goals as goal

-- the last pin of a ledger is removed with its entry, and a higher count falls by one, so no entry counts zero
pub invariant_of-self : goal.invariant_of-self
invariant_of-self c = record {
  high = c.self.invariant.high;
  pinned = rw c.unpin_in.ensures
      (less_pinned c.self.inside.pins.entries c.args.h.now c.self.invariant.pinned (rw (← c.self.view_is) at c.requires));
  apart = c.self.invariant.apart;
}
