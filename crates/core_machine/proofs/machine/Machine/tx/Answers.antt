-- the draft that was changed is the machine's session after the row
use Rattle.std.proofs.Common.{sym, ap, subst}
use Rattle.core_machine.specs.Desks.{Desk, IsFiled}
use Rattle.core_machine.proofs.Changing.{tx_row, tx_kept, row_keeps, ok_first, ok_second}
use Rattle.core_machine.proofs.machine.Machine.tx.Goals as goal

pub invariant_of-self : goal.invariant_of-self
invariant_of-self g c =
    let filed : IsFiled g.H.NodeHash.half g.Sh.B.Backend.tells c.self.inside.tables.state =
    subst (λ (d : Desk). IsFiled g.H.NodeHash.half g.Sh.B.Backend.tells d.state) (sym c.self.view_is) c.requires in
    row_keeps g.H.NodeHash.half g.Sh.B.Backend.tells c.self.inside.tables.state c.tx.new.self.state c.self.inside.sessions
    c.tx.new.sessions (c.args.actor, c.args.session) c.tx.result (λ _. ap (λ (d : Desk). d.state) c.tx.ensures.same) filed
    (λ told kept. tx_kept g.H.NodeHash.half c.self.inside.tables.state c.self.inside.sessions c.tx.new.sessions
    (c.args.actor, c.args.session) c.args.item.now.key c.args.item.now.value c.tx.result kept c.tx.ensures.changed)
    c.tx.ensures.err c.self.invariant

pub returns-clause-reply : goal.returns-clause-reply
returns-clause-reply g c told =
    let filed : IsFiled g.H.NodeHash.half g.Sh.B.Backend.tells c.self.inside.tables.state =
    subst (λ (d : Desk). IsFiled g.H.NodeHash.half g.Sh.B.Backend.tells d.state) (sym c.self.view_is) c.requires in
    rw (← c.self.view_is) (ok_first _ _ c.tx.result (tx_row g.H.NodeHash.half g.Sh.B.Backend.tells c.self.inside.tables.state
    c.tx.new.self.state c.self.inside.sessions c.tx.new.sessions (c.args.actor, c.args.session) c.args.item.now.key c.args.item.now.value
    c.tx.result told (ap (λ (d : Desk). d.state) c.tx.ensures.same) (c.self.invariant told (filed told)) c.tx.ensures.changed))

pub returns-clause-after : goal.returns-clause-after
returns-clause-after g c told =
    let filed : IsFiled g.H.NodeHash.half g.Sh.B.Backend.tells c.self.inside.tables.state =
    subst (λ (d : Desk). IsFiled g.H.NodeHash.half g.Sh.B.Backend.tells d.state) (sym c.self.view_is) c.requires in
    rw (← c.self.view_is) (ok_second _ _ c.tx.result (tx_row g.H.NodeHash.half g.Sh.B.Backend.tells c.self.inside.tables.state
    c.tx.new.self.state c.self.inside.sessions c.tx.new.sessions (c.args.actor, c.args.session) c.args.item.now.key c.args.item.now.value
    c.tx.result told (ap (λ (d : Desk). d.state) c.tx.ensures.same) (c.self.invariant told (filed told)) c.tx.ensures.changed))
