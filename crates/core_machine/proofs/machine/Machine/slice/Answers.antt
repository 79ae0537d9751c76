-- a slice leaves the state, and so what the open sessions are
use Rattle.std.proofs.Common.{ap}
use Rattle.ledger_machine.specs.State.{State, form_in}
use Rattle.core_machine.specs.Machines.{with_open}
use Rattle.core_machine.proofs.Besides.{counts_open}
use Rattle.core_machine.proofs.Machines.{keeps_same}
use Rattle.core_machine.proofs.shared.Sections.{open_rest}
use Rattle.core_machine.proofs.machine.Machine.slice.Goals as goal

pub invariant_of-self : goal.invariant_of-self
invariant_of-self g c told =
    keeps_same g.H.NodeHash.half g.Sh.B.Backend.tells c.self.inside.tables.state c.slice.new.self.state c.self.inside.sessions
    (ap (λ (s : State). form_in s) (c.slice.ensures.slices.keeps.same told)) c.self.invariant told

pub returns : goal.returns
returns g c =
    let half = g.H.NodeHash.half in
    let tells = g.Sh.B.Backend.tells in
    let slices = c.slice.ensures.slices in
    let drafts = c.self.inside.sessions in
    rw (← c.self.view_is) (record {
      keeps = record {
        same = λ told. ap (λ (s : State). with_open half tells s drafts) (slices.keeps.same told);
        rest = open_rest half tells c.self.inside.tables.state c.slice.new.self.state drafts slices.keeps.same slices.keeps.rest;
        later = slices.keeps.later;
      };
      counts = counts_open half tells c.self.inside.tables c.slice.new.self drafts c.slice.result slices.counts;
      few = slices.few;
      done = slices.done;
      fault = slices.fault;
    })
