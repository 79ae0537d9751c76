use Rattle.std.proofs.Common.{sym, subst}
use Rattle.ledger_spec.specs.Retaining.{Retention}
use Rattle.core_machine.specs.Telling.{KeepsTurning}
use Rattle.core_machine.specs.Wanting.{AreOpen}
use Rattle.core_machine.proofs.Turns.{keeps_listing}
use Rattle.core_machine.proofs.Opens.{remove_open}
use Rattle.core_machine.proofs.tables.Tables.enlist.Goals as goal

-- the other acquisitions stay open
pub invariant_of-self-2 : goal.invariant_of-self-2
invariant_of-self-2 g c = (
  subst AreOpen (sym c.remove.ensures.entries) (remove_open c.args.target.now c.self.inside.wanted.entries c.self.invariant.0),
  subst (λ (b : Retention). KeepsTurning g.Sh.B.Backend.tells b c.self.inside.rotator c.self.inside.store) (sym c.in_ok-list.ensures.ok)
      (keeps_listing g.Sh.B.Backend.tells c.self.inside.book c.self.inside.rotator c.self.inside.store c.self.invariant.1 c.args.target.now
      c.args.seq),
)
