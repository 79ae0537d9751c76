use Rattle.std.proofs.Common.{◌≡◌, ◌*◌, drop}
use Rattle.std.specs.Cmp.Lexicographic.{slice_cmp}
use Rattle.std.specs.Ordering.{nat_cmp}
use Rattle.half_hash.proofs.hash32.order_of.Given as goal

-- the words before this one are alike
abbrev pub invariant-loop-i : goal.invariant-loop-i
invariant-loop-i l = slice_cmp nat_cmp l.one l.other ≡ slice_cmp nat_cmp (drop (8 * l.i) l.one) (drop (8 * l.i) l.other)
