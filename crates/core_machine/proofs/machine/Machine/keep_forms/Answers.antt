-- the store only grows, so the open sessions stay what they are, and none of them decides a clash
use Rattle.std.proofs.Common.{IsTrue, sym, subst}
use Rattle.core_machine.specs.Desks.{Desk, IsFiled}
use Rattle.core_machine.proofs.Publishing.{kept_open, kept_keeps}
use Rattle.core_machine.proofs.Refusing.{kept_beside}
use Rattle.core_machine.proofs.Machines.{stays_beside}
use Rattle.core_machine.proofs.machine.Machine.keep_forms.Goals as goal

pub invariant_of-self : goal.invariant_of-self
invariant_of-self g c =
    let filed : IsFiled g.H.NodeHash.half g.Sh.B.Backend.tells c.self.inside.tables.state =
    subst (λ (d : Desk). IsFiled g.H.NodeHash.half g.Sh.B.Backend.tells d.state) (sym c.self.view_is) c.requires.filed in
    kept_keeps g.H.NodeHash.half c.a_session_stays_over_its_ledger.ensures c.self.inside.sessions g.Sh.B.Backend.tells
    c.self.inside.tables.state c.keep_ledger.new.self.state _ c.keep_ledger.result (λ told. c.self.invariant told (filed told))
    c.keep_ledger.ensures.forms.keeps

pub returns-clause-forms : goal.returns-clause-forms
returns-clause-forms g c =
    let half = g.H.NodeHash.half in
    let tells = g.Sh.B.Backend.tells in
    let s = c.self.inside.tables.state in
    let s' = c.keep_ledger.new.self.state in
    let drafts = c.self.inside.sessions in
    let forms = c.keep_ledger.ensures.forms in
    let filed : IsFiled half tells s =
    subst (λ (d : Desk). IsFiled half tells d.state) (sym c.self.view_is) c.requires.filed in
    let keeps = λ (told : IsTrue tells). kept_open half c.a_session_stays_over_its_ledger.ensures drafts tells s s' _ c.keep_ledger.result
    told
    (c.self.invariant told (filed told)) (forms.keeps told) in
    rw (← c.self.view_is) (record {
      keeps = keeps;
      hears = forms.hears;
      rest = kept_beside half tells s s' drafts _ c.keep_ledger.result forms.rest keeps;
      stays = stays_beside half tells c.self.inside.tables c.keep_ledger.new.self drafts drafts forms.stays;
      fault = forms.fault;
    })
