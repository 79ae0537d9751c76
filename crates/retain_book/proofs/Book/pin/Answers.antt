use Rattle.std.proofs.Common.{◌≡◌, ◌<◌, ◌+◌, ◌^◌, ◌∙◌, ℕ, Option, ap, arith}
use Rattle.std.specs.Option.{unwrap_or}
use Rattle.std.proofs.lemmas.Map.Views.{All-values-insert_entry}
use Rattle.ledger_spec.specs.Maps.{hash_cmp}
use Rattle.ledger_spec.specs.Retaining.{pin_count}
use Rattle.retain_book.proofs.Book.pin.Goals as goal

-- the count is how often the ledger is pinned, 0 where it isn't, and the caller left room for one more
pub overflow_add-count : goal.overflow_add-count
overflow_add-count c =
    let counted : c.unwrap_or-count.result ≡ pin_count c.self.inside.pins.entries c.args.h.now =
    c.unwrap_or-count.ensures ∙ ap (λ (o : Option ℕ). unwrap_or o 0) (c.copied.ensures ∙ c.get.ensures.value) in
    let room : pin_count c.self.inside.pins.entries c.args.h.now + 1 < 2 ^ 32 = rw (← c.self.view_is) at c.requires.room in
    omega (arith, counted, room)

-- a count with one added isn't zero, and the other pins are as they were
pub invariant_of-self-2 : goal.invariant_of-self-2
invariant_of-self-2 c =
    let one_more : 0 < c.unwrap_or-count.result + 1 = omega arith in
    record {
      high = c.self.invariant.high;
      pinned = rw c.in_ok-insert.ensures.entries
          (All-values-insert_entry hash_cmp c.args.h.now (c.unwrap_or-count.result + 1) (λ n. 0 < n) c.self.inside.pins.entries
          c.self.invariant.pinned one_more);
      apart = c.self.invariant.apart;
    }
