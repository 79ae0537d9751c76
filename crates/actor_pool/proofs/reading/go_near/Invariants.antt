use Rattle.std.proofs.Common.{false, None}
use Rattle.path_proof.specs.Progressing.{IsOnWay, levels_left}
use Rattle.actor_pool.proofs.reading.go_near.Given as goal

-- the read is on its way; of what is held nothing is known
abbrev pub invariant-loop-node : goal.invariant-loop-node
invariant-loop-node g l = IsOnWay g.H.NodeHash.half l.job.kind l.job.root l.job.key false (λ h. None) l.reading

abbrev pub decreases-loop-node : goal.decreases-loop-node
decreases-loop-node g l = levels_left l.reading
