-- a draft that is left is kept as before
use Rattle.std.proofs.Common.{◌∙◌}
use Rattle.core_machine.proofs.Machines.{ended_keeps, ended_has, ended_state}
use Rattle.core_machine.proofs.machine.Machine.abandon.Goals as goal

pub invariant_of-self : goal.invariant_of-self
invariant_of-self g c =
    ended_keeps g.H.NodeHash.half g.Sh.B.Backend.tells c.self.inside.tables.state c.self.inside.sessions _ (c.args.actor, c.args.session)
    c.end.ensures.after c.self.invariant

pub returns-clause-reply : goal.returns-clause-reply
returns-clause-reply g c =
    rw (← c.self.view_is)
    (c.end.ensures.was ∙ ended_has g.H.NodeHash.half g.Sh.B.Backend.tells c.self.inside.tables.state c.self.inside.sessions
    (c.args.actor, c.args.session))

pub returns-clause-after : goal.returns-clause-after
returns-clause-after g c =
    rw (← c.self.view_is) (ended_state g.H.NodeHash.half g.Sh.B.Backend.tells c.self.inside.tables.state c.self.inside.sessions _
    (c.args.actor, c.args.session) c.end.ensures.after)
