use Rattle.std.proofs.Common.{sym, ◌∙◌}
use Rattle.rotating_store.proofs.Checking.{noted_now, is_not}
use Rattle.rotating_store.proofs.store.RotStore.is_noted.Goals as goal

pub returns-clause-noted : goal.returns-clause-noted
returns-clause-noted g c = λ so. rw (← c.self.view_is) (λ held. noted_now g.Sh.B.Backend.tells _ c.self.inside.unchecked c.args.h.now
    (sym c.is_telling.ensures ∙ c.if-not-is_telling.false)
    (sym c.has.ensures ∙ is_not c.has.result so) held)
