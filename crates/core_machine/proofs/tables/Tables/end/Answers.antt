use Rattle.std.proofs.Common.{sym, subst}
use Rattle.core_machine.specs.Wanting.{AreOpen}
use Rattle.core_machine.proofs.Opens.{remove_open}
use Rattle.core_machine.proofs.tables.Tables.end.Goals as goal

-- the other acquisitions stay open
pub invariant_of-self : goal.invariant_of-self
invariant_of-self g c = (
  subst AreOpen (sym c.remove.ensures.entries) (remove_open c.args.target.now c.self.inside.wanted.entries c.self.invariant.0),
  c.self.invariant.1,
)
