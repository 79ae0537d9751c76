-- a ledger is listed, and the other drafts are kept as before
use Rattle.std.proofs.Common.{ap}
use Rattle.ledger_machine.specs.State.{form_in}
use Rattle.core_machine.specs.Desks.{Desk}
use Rattle.core_machine.proofs.Machines.{keeps_same}
use Rattle.core_machine.proofs.Publishing.{enlisted, enlisted_keeps}
use Rattle.core_machine.proofs.machine.Machine.list_closed.Goals as goal

pub invariant_of-self : goal.invariant_of-self
invariant_of-self g c =
    keeps_same g.H.NodeHash.half g.Sh.B.Backend.tells c.self.inside.tables.state c.list_closed.new.self.state c.self.inside.sessions
    (ap (λ (d : Desk). form_in d.state) c.in_err-list_closed.ensures.err) c.self.invariant

pub invariant_of-self-2 : goal.invariant_of-self-2
invariant_of-self-2 g c =
    enlisted_keeps g.H.NodeHash.half g.Sh.B.Backend.tells c.self.inside.tables.state _ c.self.inside.sessions _ c.args.id c.args.target.now
    c.args.seq c.in_ok-list_closed.ensures.ok c.end.ensures.after c.self.invariant

pub returns-clause-ok : goal.returns-clause-ok
returns-clause-ok g c =
    rw (← c.self.view_is)
    (enlisted g.H.NodeHash.half g.Sh.B.Backend.tells c.self.inside.tables.state _ c.self.inside.sessions _ c.args.id c.args.target.now
    c.args.seq c.in_ok-list_closed.ensures.ok c.end.ensures.after)

-- the machine asks nothing
pub returns-clause-store : goal.returns-clause-store
returns-clause-store g c =
    rw (← c.self.view_is) (record {
      faults = c.list_closed.ensures.store.faults;
      gets = c.list_closed.ensures.store.gets;
      epoch = c.list_closed.ensures.store.epoch;
      slices = c.list_closed.ensures.store.slices;
      copies = c.list_closed.ensures.store.copies;
    })
