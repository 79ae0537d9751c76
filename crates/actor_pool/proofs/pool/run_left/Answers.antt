use Rattle.std.proofs.Common.{◌≡◌, subst, ℕ, length, arith, ap}
use Rattle.actor_pool.specs.Order.{AreAnswered}
use Rattle.actor_pool.proofs.Order.{answered_full}
use Rattle.actor_pool.proofs.pool.run_left.Goals as goal

-- the loop has gone over every line, so each has its entry
pub returns-clause-full : goal.returns-clause-full
returns-clause-full g c =
    let P : ℕ → Type 0 = λ n. AreAnswered c.loop-at.core.lines c.loop-at.core.journal n in
    let all : c.loop-at.at ≡ length c.loop-at.core.lines = omega (
      arith,
      c.loop-at-test.false,
      c.loop-at.auto.at-end,
      c.len-at-end.ensures,
      c.script.result.now.lines.ok.0,
      ap length c.script.ensures.lines,
      ap length c.loop-at.invariant.same.lines,
    ) in
    answered_full c.loop-at.core.lines c.loop-at.core.journal c.script-2.ensures.servable c.journal.ensures.kept.projects
    c.journal.ensures.kept.known (subst P all c.loop-at.invariant.answered)
