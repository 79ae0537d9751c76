use Rattle.std.proofs.Common.{◌+◌}
use Rattle.retain_book.proofs.Counts.{listed_from_high}
use Rattle.retain_book.proofs.Book.begin.Goals as goal

-- what is below the new floor was dropped, so each ledger that is still listed is at or above it
pub invariant_of-self : goal.invariant_of-self
invariant_of-self c = record {
  high = rw c.drop_below.ensures (listed_from_high (c.in-Some-Some.last + 1) c.self.inside.listed.entries);
  pinned = c.self.invariant.pinned;
  apart = c.self.invariant.apart;
}
