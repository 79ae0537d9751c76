use Rattle.actor_pool.specs.Order.{IsSameRun, AreAnswered}
use Rattle.actor_pool.proofs.pool.run_left.Given as goal

abbrev pub invariant-loop-at : goal.invariant-loop-at
invariant-loop-at g l = record {
  same : IsSameRun l.fn.core l.core;
  answered : AreAnswered l.core.lines l.core.journal l.at;
}
