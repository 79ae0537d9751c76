-- what only reads the store leaves what drafts are kept by
use Rattle.std.proofs.Common.{rules}
use Rattle.std.proofs.Common.{sym, subst}
use Rattle.core_machine.specs.Desks.{Desk, IsFiled}
use Rattle.core_machine.proofs.Machines.{keeps_read}
use Rattle.core_machine.proofs.Machines.{reads_beside}
use Rattle.core_machine.proofs.machine.Machine.next_stored.Goals as goal

pub next_stored-requires-after_bounds : goal.next_stored-requires-after_bounds
next_stored-requires-after_bounds g c κs within =
    subst (λ (d : Desk). IsFiled g.H.NodeHash.half g.Sh.B.Backend.tells d.state) (sym c.self.view_is) c.requires

pub invariant_of-self : goal.invariant_of-self
invariant_of-self g c =
    keeps_read g.H.NodeHash.half g.Sh.B.Backend.tells c.self.inside.tables c.next_stored.new.self c.self.inside.sessions
    c.next_stored.ensures.reads c.self.invariant

pub invariant_of-self-2 : goal.invariant_of-self-2
invariant_of-self-2 g c =
    keeps_read g.H.NodeHash.half g.Sh.B.Backend.tells c.self.inside.tables c.next_stored.new.self c.self.inside.sessions
    c.next_stored.ensures.reads c.self.invariant

pub returns-in_err-next : goal.returns-in_err-next
returns-in_err-next g c =
    rw (← c.self.view_is) (record {
      next = search rules;
      follows = search rules;
      reads = reads_beside g.H.NodeHash.half g.Sh.B.Backend.tells c.self.inside.sessions _ c.next_stored.new.self
          c.next_stored.ensures.reads;
      fault = search rules;
    })

pub returns : goal.returns
returns g c =
    rw (← c.self.view_is) (record {
      next = search rules;
      follows = search rules;
      reads = reads_beside g.H.NodeHash.half g.Sh.B.Backend.tells c.self.inside.sessions _ c.next_stored.new.self
          c.next_stored.ensures.reads;
      fault = search rules;
    })
