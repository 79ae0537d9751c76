-- what only reads the store leaves what drafts are kept by
use Rattle.std.proofs.Common.{sym, subst}
use Rattle.core_machine.specs.Desks.{Desk, IsFiled}
use Rattle.core_machine.proofs.Machines.{keeps_read}
use Rattle.core_machine.proofs.Machines.{reads_beside}
use Rattle.core_machine.proofs.machine.Machine.header_of.Goals as goal

pub header_of-requires-after_bounds : goal.header_of-requires-after_bounds
header_of-requires-after_bounds g c κs within =
    subst (λ (d : Desk). IsFiled g.H.NodeHash.half g.Sh.B.Backend.tells d.state) (sym c.self.view_is) c.requires

pub invariant_of-self : goal.invariant_of-self
invariant_of-self g c =
    keeps_read g.H.NodeHash.half g.Sh.B.Backend.tells c.self.inside.tables c.header_of.new.self c.self.inside.sessions
    c.header_of.ensures.reads c.self.invariant

pub returns-clause-reads : goal.returns-clause-reads
returns-clause-reads g c =
    rw (← c.self.view_is)
    (reads_beside g.H.NodeHash.half g.Sh.B.Backend.tells c.self.inside.sessions _ c.header_of.new.self c.header_of.ensures.reads)
