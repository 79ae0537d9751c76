-- a view changes nothing that is stored, and no session
use Rattle.std.proofs.Common.{rules}
use Rattle.std.proofs.lemmas.Grind.{common_steps}
use Rattle.core_machine.proofs.Machines.{stays_beside, view_keeps, view_after}
use Rattle.core_machine.proofs.machine.Machine.view.Goals as goal

pub invariant_of-self : goal.invariant_of-self
invariant_of-self g c =
    view_keeps g.H.NodeHash.half g.Sh.B.Backend.tells c.self.inside.tables c.view.new.self c.self.inside.sessions
    (c.args.actor, c.args.view) c.args.target.now c.view.result c.view.ensures.after c.view.ensures.memory.err c.self.invariant

pub returns-clause-after : goal.returns-clause-after
returns-clause-after g c =
    rw (← c.self.view_is)
    (view_after g.H.NodeHash.half g.Sh.B.Backend.tells c.self.inside.tables.state c.view.new.self.state c.self.inside.sessions
    (c.args.actor, c.args.view) c.args.target.now c.view.result c.view.ensures.after)

pub returns-clause-memory : goal.returns-clause-memory
returns-clause-memory g c = record {
  err = search (rules, common_steps);
  told = search (rules, common_steps);
  stays = rw (← c.self.view_is)
      (stays_beside g.H.NodeHash.half g.Sh.B.Backend.tells c.self.inside.tables c.view.new.self c.self.inside.sessions
      c.self.inside.sessions c.view.ensures.memory.stays);
}
