-- the tests come in the row's order, and a retained ledger is whole
use Rattle.std.proofs.Common.{◌≡◌, true, false, sym, ◌∙◌, subst}
use Rattle.ledger_machine.specs.Sessions.{has_session}
use Rattle.ledger_machine.specs.State.{State}
use Rattle.core_machine.specs.Machines.{IsHeaderOf, IsFit}
use Rattle.core_machine.proofs.Machines.{ended_has}
use Rattle.core_machine.proofs.Starting.{fit_of, said_in_use, said_lost, said_started}
use Rattle.core_machine.proofs.machine.Machine.edit.Goals as goal

pub returns-then-has-clause-reply : goal.returns-then-has-clause-reply
returns-then-has-clause-reply g c told =
    let open_one : has_session c.args.self.now.state (c.args.actor, c.args.session) ≡ true =
    rw (← c.self.view_is) (sym (ended_has g.H.NodeHash.half g.Sh.B.Backend.tells c.self.inside.tables.state c.self.inside.sessions
    (c.args.actor, c.args.session)) ∙ sym c.has.ensures ∙ c.if-has.true) in
    said_in_use c.args.self.now.state (c.args.actor, c.args.session) c.args.target.now open_one

pub returns-then-not-is_retained-clause-reply : goal.returns-then-not-is_retained-clause-reply
returns-then-not-is_retained-clause-reply g c told =
    let none : has_session c.args.self.now.state (c.args.actor, c.args.session) ≡ false =
    rw (← c.self.view_is) (sym (ended_has g.H.NodeHash.half g.Sh.B.Backend.tells c.self.inside.tables.state c.self.inside.sessions
    (c.args.actor, c.args.session)) ∙ sym c.has.ensures ∙ c.if-has.false) in
    said_lost c.args.self.now.state (c.args.actor, c.args.session) c.args.target.now none
    (sym c.is_retained.ensures ∙ c.if-not-is_retained.true)

pub header_of-requires-after_bounds : goal.header_of-requires-after_bounds
header_of-requires-after_bounds g c κs within = λ told. (c.requires told).forms

pub start-requires-after_bounds : goal.start-requires-after_bounds
start-requires-after_bounds g c κs within = λ told.
    let s : State = c.args.self.now.state in
    let is : IsHeaderOf s c.args.target.now c.in-Some.header = rw c.in-Some.is at (c.in_ok-header.ensures.header told) in
    subst (λ (y : State). IsFit g.H.NodeHash.half y c.args.target.now c.in-Some.header) (sym (c.header_of.ensures.reads.state told))
    (fit_of g.H.NodeHash.half s c.args.target.now c.in-Some.header (c.requires told)
    (sym c.is_retained.ensures ∙ c.if-not-is_retained.false) is)

pub returns-in_ok-start-in-Some-clause-reply : goal.returns-in_ok-start-in-Some-clause-reply
returns-in_ok-start-in-Some-clause-reply g c told =
    let s : State = c.args.self.now.state in
    let is : IsHeaderOf s c.args.target.now c.in-Some.header = rw c.in-Some.is at (c.in_ok-header.ensures.header told) in
    let none : has_session s (c.args.actor, c.args.session) ≡ false =
    rw (← c.self.view_is) (sym (ended_has g.H.NodeHash.half g.Sh.B.Backend.tells c.self.inside.tables.state c.self.inside.sessions
    (c.args.actor, c.args.session)) ∙ sym c.has.ensures ∙ c.if-has.false) in
    said_started s (c.args.actor, c.args.session) c.args.target.now c.in-Some.header _ c.header_of.new.self.state none
    (sym c.is_retained.ensures ∙ c.if-not-is_retained.false) is (c.header_of.ensures.reads.state told)
    c.in_ok-start-in-Some.ensures.reply
