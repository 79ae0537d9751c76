-- the draft is of a ledger that is whole, so it is the machine's session on it
use Rattle.std.proofs.Common.{IsTrue, sym, subst}
use Rattle.edit_session.specs.Drafts.{Draft}
use Rattle.ledger_machine.specs.State.{State, form_in}
use Rattle.core_machine.specs.Machines.{IsFit}
use Rattle.core_machine.specs.Desks.{Desk}
use Rattle.core_machine.proofs.Starting.{fit_alone, started, start_keeps, start_after}
use Rattle.core_machine.proofs.machine.Machine.start.Goals as goal

pub invariant_of-self-2 : goal.invariant_of-self-2
invariant_of-self-2 g c =
    let half = g.H.NodeHash.half in
    let s : State = c.self.inside.tables.state in
    let d : Draft = c.open-session.result in
    let fit : IsTrue g.Sh.B.Backend.tells → IsFit half s c.args.target.now c.args.header =
    λ told. fit_alone half g.Sh.B.Backend.tells s c.self.inside.sessions c.args.target.now c.args.header
    ((subst (λ (x : Desk). IsTrue g.Sh.B.Backend.tells → IsFit half x.state c.args.target.now c.args.header)
    (sym c.self.view_is) c.requires) told) in
    start_keeps half g.Sh.B.Backend.tells s c.self.inside.sessions c.open.new.self c.args.id d c.in_ok-open.ensures.ok
    (λ told. (started half s c.args.target.now c.args.header d (fit told) c.open-session.ensures.opened.base
    c.open-session.ensures.opened.parent (c.open-session.ensures.maps half (form_in s) c.known_half.ensures.size (fit told).whole)).0)
    c.self.invariant

pub returns-clause-after : goal.returns-clause-after
returns-clause-after g c told =
    let half = g.H.NodeHash.half in
    let s : State = c.self.inside.tables.state in
    let d : Draft = c.open-session.result in
    let fit : IsFit half s c.args.target.now c.args.header =
    fit_alone half g.Sh.B.Backend.tells s c.self.inside.sessions c.args.target.now c.args.header
    ((subst (λ (x : Desk). IsTrue g.Sh.B.Backend.tells → IsFit half x.state c.args.target.now c.args.header)
    (sym c.self.view_is) c.requires) told) in
    rw (← c.self.view_is) (start_after half g.Sh.B.Backend.tells s c.self.inside.sessions c.open.new.self c.args.id d c.args.target.now told
    c.in_ok-open.ensures.ok (started half s c.args.target.now c.args.header d fit c.open-session.ensures.opened.base
    c.open-session.ensures.opened.parent (c.open-session.ensures.maps half (form_in s) c.known_half.ensures.size fit.whole)).1)
