-- what the machine does it does beside the sessions, whose drafts stay what they are as its store grows
use Rattle.std.proofs.Common.{IsTrue, sym, subst}
use Rattle.core_machine.specs.Machines.{with_open}
use Rattle.core_machine.specs.Checking.{HasFound}
use Rattle.core_machine.specs.Desks.{Desk, IsFiled}
use Rattle.core_machine.specs.Serving.{MayServe}
use Rattle.core_machine.proofs.Machines.{lifted, lifted_keeps}
use Rattle.core_machine.proofs.Besides.{copies_open, tells_open, names_open}
use Rattle.core_machine.proofs.Offered.{wanted_open}
use Rattle.core_machine.proofs.Refusing.{beside_rest}
use Rattle.core_machine.proofs.machine.Machine.beside.Goals as goal

-- each open target is a root, and sessions see neither what is wanted nor what is stored
pub answer-answered-requires-clause-may : goal.answer-answered-requires-clause-may
answer-answered-requires-clause-may g c κs within =
    let half = g.H.NodeHash.half in
    let tells = g.Sh.B.Backend.tells in
    let may : MayServe half tells (record c.self.inside.tables {
      state = with_open half tells c.self.inside.tables.state
          c.self.inside.sessions;
    })
    c.args.command.now = subst (λ (d : Desk). MayServe half tells d c.args.command.now) (sym c.self.view_is) c.requires.may in
    record {
      in_range = may.in_range;
      filed = λ told. (may.sound told).forms;
      told = λ told. wanted_open half tells c.self.inside.tables.state c.self.inside.sessions (may.told told);
      found = subst (λ (d : Desk). HasFound half tells d.state c.args.command.now c.args.found.now) (sym c.self.view_is) c.requires.found;
    }

pub invariant_of-self : goal.invariant_of-self
invariant_of-self g c =
    let half = g.H.NodeHash.half in
    let tells = g.Sh.B.Backend.tells in
    let filed : IsFiled half tells c.self.inside.tables.state =
    subst (λ (d : Desk). IsFiled half tells d.state) (sym c.self.view_is) (λ told. (c.requires.may.sound told).forms) in
    lifted_keeps half c.a_session_stays_over_its_ledger.ensures c.self.inside.sessions tells
    c.self.inside.tables.state c.answer-answered.new.self.state c.args.actor c.args.command.now _ _ c.requires.beside
    (λ told. c.self.invariant told (filed told)) c.answer-answered.ensures.acts.does

pub returns-clause-acts : goal.returns-clause-acts
returns-clause-acts g c =
    let half = g.H.NodeHash.half in
    let tells = g.Sh.B.Backend.tells in
    let s = c.self.inside.tables.state in
    let s' = c.answer-answered.new.self.state in
    let drafts = c.self.inside.sessions in
    let acts = c.answer-answered.ensures.acts in
    let filed : IsFiled half tells s =
    subst (λ (d : Desk). IsFiled half tells d.state) (sym c.self.view_is) (λ told. (c.requires.may.sound told).forms) in
    let does = λ (told : IsTrue tells). lifted half c.a_session_stays_over_its_ledger.ensures drafts tells s s' c.args.actor
    c.args.command.now _ _ told c.requires.beside
    (λ es. c.a_row_is_one_beside_any_sessions.ensures half es s s' c.args.actor c.args.command.now _ _ c.requires.beside)
    (c.self.invariant told (filed told)) (acts.does told) in
    rw (← c.self.view_is) (record {
      does = does;
      leaves = record {
        refused = λ is. beside_rest half tells s s' drafts c.args.actor c.args.command.now _ _ is (acts.leaves.refused is) does;
        grows = record { later = acts.leaves.grows.later; few = acts.leaves.grows.few; ages = acts.leaves.grows.ages };
        slices = acts.leaves.slices;
        fault = acts.leaves.fault;
      };
      copies = λ told. copies_open half tells c.self.inside.tables c.answer-answered.new.self drafts c.args.command.now (acts.copies told);
      asks = acts.asks;
    })

pub returns-clause-tells : goal.returns-clause-tells
returns-clause-tells g c told =
    rw (← c.self.view_is)
    (tells_open g.H.NodeHash.half g.Sh.B.Backend.tells c.self.inside.tables.state c.answer-answered.new.self.state c.self.inside.sessions
    c.args.actor c.args.command.now _ c.requires.beside c.known.ensures.sessions c.answer-answered.ensures.tells)

pub returns-clause-names : goal.returns-clause-names
returns-clause-names g c told =
    rw (← c.self.view_is)
    (names_open g.H.NodeHash.half g.Sh.B.Backend.tells c.self.inside.tables.state c.answer-answered.new.self.state c.self.inside.sessions
    c.args.command.now _ c.requires.beside c.answer-answered.ensures.names)
