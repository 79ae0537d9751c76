use Rattle.std.proofs.Common.{◌-◌}
use Rattle.actor_pool.proofs.pool.run_workers.Given as goal

abbrev pub decreases-loop-answered : goal.decreases-loop-answered
decreases-loop-answered g l = l.lines - l.answered
