-- no ledger is pinned in the book, so its roots from the first sequence on are the listed ones; the others stand behind them
use Rattle.std.proofs.Common.{◌++◌, ap, ◌∙◌}
use Rattle.core_machine.proofs.Rising.{listed_roots}
use Rattle.core_machine.proofs.tables.Tables.pinned.Goals as goal

pub returns : goal.returns
returns g c =
    rw (← c.self.view_is) (
      c.in_ok-hashes.hashes.items,
      listed_roots c.self.inside.book c.in_ok-hashes.hashes.items c.self.invariant.1.pins c.in_ok-hashes.ensures,
      c.in_ok-extend_from_slice-2.ensures.items
          ∙ ap (λ hs. hs ++ c.args.bases.now) (c.in_ok-extend_from_slice.ensures.items
          ∙ ap (λ hs. c.in_ok-hashes.hashes.items ++ hs) (c.deref.ensures.value ∙ c.in_ok-views.ensures)),
    )
