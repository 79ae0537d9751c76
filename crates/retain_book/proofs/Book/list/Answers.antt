use Rattle.std.proofs.Common.{◌≤◌}
use Rattle.std.proofs.lemmas.Map.Views.{All-values-insert_entry}
use Rattle.ledger_spec.specs.Maps.{hash_cmp}
use Rattle.retain_book.proofs.Book.list.Goals as goal

-- the new sequence is at or above the floor, as those of all other listed ledgers are
pub invariant_of-self-2 : goal.invariant_of-self-2
invariant_of-self-2 c = record {
  high = rw c.in_ok-insert.ensures.entries (All-values-insert_entry hash_cmp c.args.h.now c.args.seq (λ seq. c.self.inside.floor ≤ seq)
      c.self.inside.listed.entries c.self.invariant.high (rw (← c.self.view_is) at c.requires));
  pinned = c.self.invariant.pinned;
  apart = c.self.invariant.apart;
}
