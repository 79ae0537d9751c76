use Rattle.std.proofs.Common.{List, sym, subst}
use Rattle.ledger_spec.specs.Bytes.{Hash}
use Rattle.node_backend.specs.Rising.{IsRising}
use Rattle.node_backend.proofs.table.NodeTable.next.Goals as goal

pub returns-clause-next : goal.returns-clause-next
returns-clause-next c = c.next_in-next.ensures c.args.self.now
    (subst (λ (hs : List Hash). IsRising hs c.args.self.now) (sym c.deref.ensures.value) c.in_ok-order.ensures.rising)
