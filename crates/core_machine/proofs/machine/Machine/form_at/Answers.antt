-- what only reads the store leaves what drafts are kept by
use Rattle.std.proofs.Common.{sym, subst}
use Rattle.core_machine.specs.Desks.{Desk, IsFiled}
use Rattle.core_machine.proofs.Machines.{keeps_read, reads_beside}
use Rattle.core_machine.proofs.machine.Machine.form_at.Goals as goal

pub form_at-requires-after_bounds : goal.form_at-requires-after_bounds
form_at-requires-after_bounds g c κs within =
    subst (λ (d : Desk). IsFiled g.H.NodeHash.half g.Sh.B.Backend.tells d.state) (sym c.self.view_is) c.requires

pub invariant_of-self : goal.invariant_of-self
invariant_of-self g c =
    keeps_read g.H.NodeHash.half g.Sh.B.Backend.tells c.self.inside.tables c.form_at.new.self c.self.inside.sessions
    c.form_at.ensures.reads c.self.invariant

pub returns : goal.returns
returns g c =
    rw (← c.self.view_is) (record {
      form = c.form_at.ensures.form;
      reads = reads_beside g.H.NodeHash.half g.Sh.B.Backend.tells c.self.inside.sessions _ c.form_at.new.self c.form_at.ensures.reads;
      fault = c.form_at.ensures.fault;
    })
