-- the rotator and the book begin, as the machine's row says
use Rattle.std.proofs.Common.{sym, subst, ap, ◌∙◌, ◌++◌, length, arith, rules}
use Rattle.std.proofs.lemmas.Grind.{common_steps}
use Rattle.std.specs.Map.{keys_of, values_of}
use Rattle.ledger_machine.specs.Rotation.{begin_reply}
use Rattle.core_machine.specs.Desks.{Desk}
use Rattle.ledger_spec.specs.Retaining.{Retention}
use Rattle.online_rotate.specs.Rotators.{Turning}
use Rattle.core_machine.specs.Telling.{KeepsTurning}
use Rattle.core_machine.proofs.Beginning.{begin_said, begin_after, begin_by, begin_counts, begin_few}
use Rattle.core_machine.proofs.Turns.{keeps_begin}
use Rattle.core_machine.proofs.tables.Tables.begin.Goals as goal

pub invariant_of-self : goal.invariant_of-self
invariant_of-self g c = (
  c.self.invariant.0,
  subst (λ (x : Turning). KeepsTurning g.Sh.B.Backend.tells c.begin.new.book x c.self.inside.store)
      (sym c.in_err-begun.ensures.err.same.0) (subst (λ (b : Retention). KeepsTurning g.Sh.B.Backend.tells b c.self.inside.rotator
      c.self.inside.store) (sym c.in_err-begun.ensures.err.same.1) c.self.invariant.1),
)

pub invariant_of-self-2 : goal.invariant_of-self-2
invariant_of-self-2 g c = (
  c.self.invariant.0,
  keeps_begin g.Sh.B.Backend.tells c.self.inside.book c.self.inside.rotator c.self.inside.store c.self.invariant.1
      _ c.in_ok-begun.begun c.begin.new.book c.begin.new.self c.in_ok-begun.ensures.reply c.in_ok-begun.ensures.after
      c.begin.ensures.step,
)

pub returns : goal.returns
returns g c = record {
  reply =
      c.begin_told.ensures ∙ begin_said c.self.inside.store c.self.inside.wanted.entries c.self.inside.views.entries
      c.self.inside.book c.self.inside.rotator c.in_ok-begun.begun c.self.invariant.1.step c.in_ok-begun.ensures.reply
      ∙ ap (λ (d : Desk). begin_reply d.state) c.self.view_is;
  after =
      rw c.begin_told.ensures (rw (← c.self.view_is) (begin_after c.self.inside.store c.self.inside.wanted.entries
      c.self.inside.views.entries c.self.inside.book c.self.inside.rotator _ c.begin.new.book c.begin.new.self
      c.in_ok-begun.begun c.in_ok-begun.ensures.reply c.in_ok-begun.ensures.after));
  told =
      rw c.begin_told.ensures (rw (← c.self.view_is) (begin_by c.self.inside.store c.self.inside.wanted.entries
      c.self.inside.views.entries c.self.inside.book c.self.inside.rotator _ c.begin.new.book c.begin.new.self
      c.args.bases.now c.in_ok-begun.begun c.self.invariant.1.pins
      (c.deref.ensures.value ∙ c.in_ok-targets.ensures
      ∙ sym (ap (λ (d : Desk). values_of d.state.views ++ keys_of d.state.wanted ++ c.args.bases.now) c.self.view_is))
      c.in_ok-begun.ensures.after));
  err = search (rules, common_steps);
  grows = record {
    later = omega (arith, ap (λ (d : Desk). d.faults) c.self.view_is);
    few = omega (
      arith,
      begin_few c.self.inside.store c.self.inside.wanted.entries c.self.inside.views.entries c.self.inside.book c.self.inside.rotator _
          c.begin.new.book c.begin.new.self c.in_ok-begun.begun c.in_ok-begun.ensures.after,
      ap (λ (d : Desk). length d.state.listed) c.self.view_is,
    );
    ages = omega (arith, ap (λ (d : Desk). d.state.epoch) c.self.view_is);
  };
  slices =
      rw c.begin_told.ensures (rw (← c.self.view_is) (begin_counts c.self.inside.store c.self.inside.wanted.entries
      c.self.inside.views.entries c.self.inside.book c.self.inside.rotator _ c.begin.new.book c.begin.new.self
      c.in_ok-begun.begun c.in_ok-begun.ensures.after));
  copies = search (rules, common_steps);
}
