-- the rotator hears what it is told, and all else stays
use Rattle.std.proofs.Common.{refl, sym, subst}
use Rattle.online_rotate.specs.Rotators.{Turning}
use Rattle.core_machine.specs.Telling.{KeepsTurning}
use Rattle.core_machine.proofs.Turns.{keeps_shaded, hears_shaded, told_shaded}
use Rattle.core_machine.proofs.tables.Tables.shade.Goals as goal

pub invariant_of-self : goal.invariant_of-self
invariant_of-self g c = (
  c.self.invariant.0,
  subst (λ (x : Turning). KeepsTurning g.Sh.B.Backend.tells c.self.inside.book x c.self.inside.store)
      (sym c.in_err-shade.ensures.err) c.self.invariant.1,
)

pub invariant_of-self-2 : goal.invariant_of-self-2
invariant_of-self-2 g c = (
  c.self.invariant.0,
  keeps_shaded g.Sh.B.Backend.tells c.self.inside.book c.self.inside.rotator c.self.inside.store c.self.invariant.1
      c.shade.new.self c.args.h.now c.in_ok-shade.ensures.told (λ e. (c.in_ok-shade.ensures.idle e).1),
)

pub returns-clause-after : goal.returns-clause-after
returns-clause-after g c = rw (← c.self.view_is) refl

pub returns-clause-hears : goal.returns-clause-hears
returns-clause-hears g c =
    rw (← c.self.view_is) (hears_shaded c.self.inside.rotator c.shade.new.self c.args.h.now c.in_ok-shade.ensures.told
    (λ e. (c.in_ok-shade.ensures.idle e).1))

pub returns-clause-told : goal.returns-clause-told
returns-clause-told g c =
    rw (← c.self.view_is) (told_shaded c.self.inside.rotator c.shade.new.self c.self.inside.book c.args.h.now c.self.invariant.1.step
    c.in_ok-shade.ensures.told)
