-- what only reads the store leaves what drafts are kept by
use Rattle.std.proofs.Common.{sym, subst}
use Rattle.core_machine.specs.Desks.{Desk, IsFiled}
use Rattle.core_machine.proofs.Besides.{seeks_open}
use Rattle.core_machine.proofs.Machines.{keeps_read}
use Rattle.core_machine.proofs.machine.Machine.seek.Goals as goal

pub seek-requires-clause-filed : goal.seek-requires-clause-filed
seek-requires-clause-filed g c κs within =
    subst (λ (d : Desk). IsFiled g.H.NodeHash.half g.Sh.B.Backend.tells d.state) (sym c.self.view_is) c.requires.filed

pub invariant_of-self : goal.invariant_of-self
invariant_of-self g c =
    keeps_read g.H.NodeHash.half g.Sh.B.Backend.tells c.self.inside.tables c.seek.new.self c.self.inside.sessions
    c.seek.ensures.reads c.self.invariant

pub returns : goal.returns
returns g c =
    rw (← c.self.view_is)
    (seeks_open g.H.NodeHash.half g.Sh.B.Backend.tells c.self.inside.tables c.seek.new.self c.self.inside.sessions c.args.actor
    c.args.target.now c.args.part c.args.searches.now c.seek.new.searches c.seek.result c.seek.ensures)
