-- the draft that was changed is the machine's session after the row
use Rattle.std.proofs.Common.{sym, subst}
use Rattle.core_machine.specs.Desks.{Desk, IsFiled}
use Rattle.core_machine.proofs.Changing.{looks_beside, put_row, put_kept, row_keeps, ok_first, ok_second}
use Rattle.core_machine.proofs.machine.Machine.put.Goals as goal

pub put-requires-after_bounds : goal.put-requires-after_bounds
put-requires-after_bounds g c κs within =
    subst (λ (d : Desk). IsFiled g.H.NodeHash.half g.Sh.B.Backend.tells d.state) (sym c.self.view_is) c.requires

pub invariant_of-self : goal.invariant_of-self
invariant_of-self g c =
    let filed : IsFiled g.H.NodeHash.half g.Sh.B.Backend.tells c.self.inside.tables.state =
    subst (λ (d : Desk). IsFiled g.H.NodeHash.half g.Sh.B.Backend.tells d.state) (sym c.self.view_is) c.requires in
    row_keeps g.H.NodeHash.half g.Sh.B.Backend.tells c.self.inside.tables.state c.put.new.self.state c.self.inside.sessions
    c.put.new.sessions (c.args.actor, c.args.session) c.put.result c.put.ensures.reads.state filed
    (λ told kept. put_kept g.H.NodeHash.half c.self.inside.tables.state c.self.inside.sessions c.put.new.sessions
    (c.args.actor, c.args.session) c.args.item.now.key c.args.item.now.value c.put.result kept (c.put.ensures.changed told))
    c.put.ensures.err c.self.invariant

pub returns-clause-reply : goal.returns-clause-reply
returns-clause-reply g c told =
    let filed : IsFiled g.H.NodeHash.half g.Sh.B.Backend.tells c.self.inside.tables.state =
    subst (λ (d : Desk). IsFiled g.H.NodeHash.half g.Sh.B.Backend.tells d.state) (sym c.self.view_is) c.requires in
    rw (← c.self.view_is) (ok_first _ _ c.put.result (put_row g.H.NodeHash.half g.Sh.B.Backend.tells c.self.inside.tables.state
    c.put.new.self.state c.self.inside.sessions c.put.new.sessions (c.args.actor, c.args.session) c.args.item.now.key c.args.item.now.value
    c.put.result told (c.put.ensures.reads.state told) (c.self.invariant told (filed told)) (c.put.ensures.changed told)))

pub returns-clause-after : goal.returns-clause-after
returns-clause-after g c told =
    let filed : IsFiled g.H.NodeHash.half g.Sh.B.Backend.tells c.self.inside.tables.state =
    subst (λ (d : Desk). IsFiled g.H.NodeHash.half g.Sh.B.Backend.tells d.state) (sym c.self.view_is) c.requires in
    rw (← c.self.view_is) (ok_second _ _ c.put.result (put_row g.H.NodeHash.half g.Sh.B.Backend.tells c.self.inside.tables.state
    c.put.new.self.state c.self.inside.sessions c.put.new.sessions (c.args.actor, c.args.session) c.args.item.now.key c.args.item.now.value
    c.put.result told (c.put.ensures.reads.state told) (c.self.invariant told (filed told)) (c.put.ensures.changed told)))

pub returns-clause-looks : goal.returns-clause-looks
returns-clause-looks g c =
    rw (← c.self.view_is)
    (looks_beside g.H.NodeHash.half g.Sh.B.Backend.tells c.self.inside.tables c.put.new.self c.self.inside.sessions c.put.new.sessions
    c.put.result c.put.ensures.err c.put.ensures.reads c.put.ensures.fault)
