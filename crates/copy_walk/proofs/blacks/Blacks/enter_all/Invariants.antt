use Rattle.std.proofs.Common.{◌≡◌}
use Rattle.copy_walk.proofs.blacks.Blacks.enter_all.Given as goal

-- the hashes stay
abbrev pub invariant-loop-place : goal.invariant-loop-place
invariant-loop-place l = l.self ≡ l.fn.self
