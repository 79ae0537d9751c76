-- the tests come in the row's order, and what the session closes into is the row's ledger
use Rattle.std.proofs.Common.{IsTrue, sym, subst}
use Rattle.ledger_machine.specs.Sound.{Sound}
use Rattle.core_machine.specs.Desks.{Desk}
use Rattle.core_machine.proofs.Sealing.{unmade_none, unmade_empty, unmade_low, unmade_fault, made_whole}
use Rattle.core_machine.proofs.machine.Machine.seal.Goals as goal

pub returns-in_default-clause-unmade : goal.returns-in_default-clause-unmade
returns-in_default-clause-unmade g c =
    rw (← c.self.view_is)
    (unmade_none g.H.NodeHash.half g.Sh.B.Backend.tells c.self.inside.tables.state c.self.inside.sessions c.args.id c.args.given.now
    c.in_default.ensures)

pub returns-then-is_empty-clause-unmade : goal.returns-then-is_empty-clause-unmade
returns-then-is_empty-clause-unmade g c =
    rw (← c.self.view_is)
    (unmade_empty g.H.NodeHash.half c.self.inside.tables.state c.self.inside.sessions c.args.id c.in-Some.session.now c.args.given.now
    g.Sh.B.Backend.tells (record {
      is = c.in-Some.ensures;
      keeps = c.self.invariant;
      sound = subst (λ (d : Desk). IsTrue g.Sh.B.Backend.tells → Sound g.H.NodeHash.half d.state) (sym c.self.view_is) c.requires.sound;
      are = c.requires.in_range;
    }) c.if-is_empty.ensures)

pub returns-then-next_seq-floor-clause-unmade : goal.returns-then-next_seq-floor-clause-unmade
returns-then-next_seq-floor-clause-unmade g c =
    rw (← c.self.view_is)
    (unmade_low g.H.NodeHash.half c.self.inside.tables.state c.self.inside.sessions c.args.id c.in-Some.session.now c.args.given.now
    c.known_half.ensures c.if-is_empty.ensures
    g.Sh.B.Backend.tells c.next_seq.result c.floor-floor.result (record {
      is = c.in-Some.ensures;
      keeps = c.self.invariant;
      sound = subst (λ (d : Desk). IsTrue g.Sh.B.Backend.tells → Sound g.H.NodeHash.half d.state) (sym c.self.view_is) c.requires.sound;
      are = c.requires.in_range;
    }) c.next_seq.ensures c.floor-floor.ensures c.if-next_seq-floor.true)

pub returns-in-Err-clause-unmade : goal.returns-in-Err-clause-unmade
returns-in-Err-clause-unmade g c =
    rw (← c.self.view_is, c.unsealed.ensures)
    (unmade_fault g.H.NodeHash.half c.self.inside.tables.state c.self.inside.sessions c.args.id c.in-Some.session.now c.args.given.now
    c.known_half.ensures c.if-is_empty.ensures
    g.Sh.B.Backend.tells c.next_seq.result c.floor-floor.result c.fields.result c.in-Err.fault (record {
      is = c.in-Some.ensures;
      keeps = c.self.invariant;
      sound = subst (λ (d : Desk). IsTrue g.Sh.B.Backend.tells → Sound g.H.NodeHash.half d.state) (sym c.self.view_is) c.requires.sound;
      are = c.requires.in_range;
    }) c.next_seq.ensures c.floor-floor.ensures c.if-next_seq-floor.false c.fields.ensures c.in-Err.ensures.zero)

pub returns-in-Ok-clause-made : goal.returns-in-Ok-clause-made
returns-in-Ok-clause-made g c told =
    rw (← c.self.view_is)
    (made_whole g.H.NodeHash.half c.self.inside.tables.state c.self.inside.sessions c.args.id c.in-Some.session.now c.args.given.now
    c.known_half.ensures c.if-is_empty.ensures
    g.Sh.B.Backend.tells c.next_seq.result c.floor-floor.result c.fields.result c.in-Ok.made (record {
      is = c.in-Some.ensures;
      keeps = c.self.invariant;
      sound = subst (λ (d : Desk). IsTrue g.Sh.B.Backend.tells → Sound g.H.NodeHash.half d.state) (sym c.self.view_is) c.requires.sound;
      are = c.requires.in_range;
    }) c.next_seq.ensures c.floor-floor.ensures c.if-next_seq-floor.false c.fields.ensures
    (record { follows = c.in-Ok.ensures.follows; closes = c.in-Ok.ensures.closes; zero = c.in-Ok.ensures.zero }) told)
