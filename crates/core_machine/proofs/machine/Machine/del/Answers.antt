-- the draft that was changed is the machine's session after the row
use Rattle.std.proofs.Common.{rules}
use Rattle.std.proofs.Common.{◌∙◌, sym, subst, Ok}
use Rattle.node_backend.specs.declared.back.BackFault.{BackFault}
use Rattle.core_machine.specs.Desks.{Desk, IsFiled}
use Rattle.core_machine.proofs.Changing.{looks_beside, del_row, del_kept, row_keeps}
use Rattle.core_machine.proofs.shared.States.{on_err}
use Rattle.core_machine.proofs.machine.Machine.del.Goals as goal

pub remove-requires-after_bounds : goal.remove-requires-after_bounds
remove-requires-after_bounds g c κs within =
    subst (λ (d : Desk). IsFiled g.H.NodeHash.half g.Sh.B.Backend.tells d.state) (sym c.self.view_is) c.requires

pub invariant_of-self : goal.invariant_of-self
invariant_of-self g c =
    let filed : IsFiled g.H.NodeHash.half g.Sh.B.Backend.tells c.self.inside.tables.state =
    subst (λ (d : Desk). IsFiled g.H.NodeHash.half g.Sh.B.Backend.tells d.state) (sym c.self.view_is) c.requires in
    row_keeps g.H.NodeHash.half g.Sh.B.Backend.tells c.self.inside.tables.state c.remove.new.self.state c.self.inside.sessions
    c.remove.new.sessions (c.args.actor, c.args.session) c.remove.result c.remove.ensures.reads.state filed
    (λ told kept. del_kept g.H.NodeHash.half c.self.inside.tables.state c.self.inside.sessions c.remove.new.sessions
    (c.args.actor, c.args.session) c.args.key.now c.remove.result kept (c.remove.ensures.changed told))
    c.remove.ensures.err c.self.invariant

pub invariant_of-self-2 : goal.invariant_of-self-2
invariant_of-self-2 g c =
    let filed : IsFiled g.H.NodeHash.half g.Sh.B.Backend.tells c.self.inside.tables.state =
    subst (λ (d : Desk). IsFiled g.H.NodeHash.half g.Sh.B.Backend.tells d.state) (sym c.self.view_is) c.requires in
    row_keeps g.H.NodeHash.half g.Sh.B.Backend.tells c.self.inside.tables.state c.remove.new.self.state c.self.inside.sessions
    c.remove.new.sessions (c.args.actor, c.args.session) c.remove.result c.remove.ensures.reads.state filed
    (λ told kept. del_kept g.H.NodeHash.half c.self.inside.tables.state c.self.inside.sessions c.remove.new.sessions
    (c.args.actor, c.args.session) c.args.key.now c.remove.result kept (c.remove.ensures.changed told))
    c.remove.ensures.err c.self.invariant

pub returns-clause-reply : goal.returns-clause-reply
returns-clause-reply g c told =
    let filed : IsFiled g.H.NodeHash.half g.Sh.B.Backend.tells c.self.inside.tables.state =
    subst (λ (d : Desk). IsFiled g.H.NodeHash.half g.Sh.B.Backend.tells d.state) (sym c.self.view_is) c.requires in
    rw (← c.self.view_is) (c.removed.ensures ∙ (del_row g.H.NodeHash.half g.Sh.B.Backend.tells c.self.inside.tables.state
    c.remove.new.self.state c.self.inside.sessions c.remove.new.sessions (c.args.actor, c.args.session) c.args.key.now
    {E = BackFault} (Ok c.in_ok-there.there) told (c.remove.ensures.reads.state told) (c.self.invariant told (filed told))
    (rw c.in_ok-there.was at (c.remove.ensures.changed told))).0)

pub returns-clause-after : goal.returns-clause-after
returns-clause-after g c told =
    let filed : IsFiled g.H.NodeHash.half g.Sh.B.Backend.tells c.self.inside.tables.state =
    subst (λ (d : Desk). IsFiled g.H.NodeHash.half g.Sh.B.Backend.tells d.state) (sym c.self.view_is) c.requires in
    rw (← c.self.view_is) (del_row g.H.NodeHash.half g.Sh.B.Backend.tells c.self.inside.tables.state
    c.remove.new.self.state c.self.inside.sessions c.remove.new.sessions (c.args.actor, c.args.session) c.args.key.now
    {E = BackFault} (Ok c.in_ok-there.there) told (c.remove.ensures.reads.state told) (c.self.invariant told (filed told))
    (rw c.in_ok-there.was at (c.remove.ensures.changed told))).1

pub returns-in_err-there-clause-looks : goal.returns-in_err-there-clause-looks
returns-in_err-there-clause-looks g c =
    rw (← c.self.view_is)
    (looks_beside g.H.NodeHash.half g.Sh.B.Backend.tells c.self.inside.tables c.remove.new.self c.self.inside.sessions
    c.remove.new.sessions c.from_residual.result (on_err c.from_residual.result c.in_err-there.ensures.err) c.remove.ensures.reads
    (search rules))

pub returns-clause-looks : goal.returns-clause-looks
returns-clause-looks g c =
    rw (← c.self.view_is)
    (looks_beside g.H.NodeHash.half g.Sh.B.Backend.tells c.self.inside.tables c.remove.new.self c.self.inside.sessions
    c.remove.new.sessions (Ok c.removed.result) tt c.remove.ensures.reads tt)
