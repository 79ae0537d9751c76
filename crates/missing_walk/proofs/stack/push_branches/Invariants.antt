use Rattle.std.proofs.Common.{◌-◌}
use Rattle.missing_walk.specs.Pending.{kids_from}
use Rattle.missing_walk.specs.Stacks.{Pushes}
use Rattle.missing_walk.proofs.stack.push_branches.Given as goal

-- the highest branches are there
abbrev pub invariant-loop-i : goal.invariant-loop-i
invariant-loop-i l = Pushes l.fn.stack.items l.stack.items (kids_from l.at.kind l.at.id l.inner.hashes (16 - l.i) l.i)
