use Rattle.std.proofs.Common.{⊎_elim, refl}
use Rattle.store_core.proofs.Handing.{advances_for, none_handed}
use Rattle.store_core.proofs.core_calls.Core.step.Goals as goal

-- nothing is handed in, so a fault is one of this section
pub returns-clause-answered : goal.returns-clause-answered
returns-clause-answered g c is =
    advances_for g.H.NodeHash.half g.Sh.B.Backend.tells _ _ c.args.self.now c.args.actor _
    (λ cause. ⊎_elim (λ rose. rose) (λ by. absurd (none_handed by.0)) cause) (c.advance.ensures.answered is)

pub returns-clause-comes : goal.returns-clause-comes
returns-clause-comes g c = record {
  blocked = c.advance.ensures.blocked;
  finished = c.advance.ensures.finished;
  unchanged = c.advance.ensures.unchanged;
  slices = c.advance.ensures.slices;
  few = c.advance.ensures.few;
}

pub returns-clause-short : goal.returns-clause-short
returns-clause-short g c = record { copies = λ told. c.advance.ensures.copies told refl; asks = c.advance.ensures.asks refl }
