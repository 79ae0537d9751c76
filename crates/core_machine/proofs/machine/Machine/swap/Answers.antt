-- what a session leaves to the store is reached from the ledger that it edits, which the rotation was told of
use Rattle.std.proofs.Common.{IsTrue, sym, subst}
use Rattle.ledger_spec.specs.Own.{AreStored}
use Rattle.ledger_machine.specs.State.{form_in}
use Rattle.core_machine.specs.Desks.{Desk, IsFiled}
use Rattle.core_machine.specs.Telling.{AreTold}
use Rattle.core_machine.proofs.Besides.{err_open, kept_open, swap_keeps, swap_after}
use Rattle.core_machine.proofs.machine.Machine.swap.Goals as goal

pub invariant_of-self : goal.invariant_of-self
invariant_of-self g c =
    let half = g.H.NodeHash.half in
    let tells = g.Sh.B.Backend.tells in
    swap_keeps half tells c.self.inside.tables c.swap.new.self c.self.inside.sessions c.swap.result
    c.a_session_stays_over_its_ledger.ensures
    (subst (λ (d : Desk). IsFiled half tells d.state) (sym c.self.view_is) c.requires.filed)
    (subst (λ (d : Desk). IsTrue tells → AreTold d.state) (sym c.self.view_is) c.requires.told)
    c.swap.ensures.swaps c.swap.ensures.err c.self.invariant

pub returns : goal.returns
returns g c =
    let half = g.H.NodeHash.half in
    let tells = g.Sh.B.Backend.tells in
    let drafts = c.self.inside.sessions in
    let ends = c.swap.ensures in
    rw (← c.self.view_is) (record {
      swaps = λ told.
          let filed : AreStored half (form_in c.self.inside.tables.state) =
          (subst (λ (d : Desk). IsFiled half tells d.state) (sym c.self.view_is) c.requires.filed) told in
          swap_after half tells c.self.inside.tables c.swap.new.self drafts c.swap.result
          c.a_session_stays_over_its_ledger.ensures told filed
          ((subst (λ (d : Desk). IsTrue tells → AreTold d.state) (sym c.self.view_is) c.requires.told) told)
          (c.self.invariant told filed) (ends.swaps told);
      err = λ told. err_open half tells c.self.inside.tables.state c.swap.new.self.state drafts c.swap.result (ends.err told);
      kept = kept_open half tells c.self.inside.tables.state c.swap.new.self.state drafts c.swap.result ends.err ends.kept;
      grows = record { later = ends.grows.later; few = ends.grows.few; ages = ends.grows.ages };
      slices = ends.slices;
      still = ends.still;
      fault = ends.fault;
    })
