use Rattle.std.proofs.Common.{◌≡◌}
use Rattle.root_pass.specs.Rows.{way}
use Rattle.root_pass.proofs.pass.common.Given as goal

-- the first nibbles are the same
abbrev pub invariant-loop-i : goal.invariant-loop-i
invariant-loop-i l = way l.a l.i ≡ way l.b l.i
