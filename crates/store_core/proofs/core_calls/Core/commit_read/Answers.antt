use Rattle.std.proofs.Common.{⊎_elim, inl, inr, refl}
use Rattle.store_core.proofs.Handing.{advances_for, judged_fault, judged_takes}
use Rattle.store_core.proofs.core_calls.Core.commit_read.Goals as goal

-- a fault that is handed in is this one
pub returns-clause-does : goal.returns-clause-does
returns-clause-does g c = record {
  answered = λ is. advances_for g.H.NodeHash.half g.Sh.B.Backend.tells _ _ c.args.self.now c.args.actor _
      (λ cause. ⊎_elim (λ rose. inl rose) (λ by. inr (
        judged_fault g.H.NodeHash.half c.args.job.now c.args.got c.judged-handed.result
            c.judged-handed.ensures by.0,
        by.1,
      )) cause)
      (c.advance.ensures.answered is);
  more = λ is. (c.advance.ensures.more is).1;
  short = record { copies = λ told. c.advance.ensures.copies told refl; asks = c.advance.ensures.asks refl };
}

pub returns-clause-takes : goal.returns-clause-takes
returns-clause-takes g c asked =
    judged_takes g.H.NodeHash.half c.args.job.now c.args.got _ c.judged-handed.result _ _ asked c.judged-handed.ensures
    c.advance.ensures.takes

pub returns-clause-comes : goal.returns-clause-comes
returns-clause-comes g c = record {
  blocked = c.advance.ensures.blocked;
  finished = c.advance.ensures.finished;
  unchanged = c.advance.ensures.unchanged;
  slices = c.advance.ensures.slices;
  few = c.advance.ensures.few;
}
