use Rattle.std.proofs.Common.{◌≡◌, take, cond}
use Rattle.std.specs.List.{count_by}
use Rattle.half_hash.specs.Zero.{is_nonzero}
use Rattle.shamap_node.proofs.parts.one_nonzero.Given as goal

-- of the hashes so far one isn't zero where one was found, and else none
abbrev pub invariant-loop-h : goal.invariant-loop-h
invariant-loop-h l = count_by is_nonzero (take l.h-index l.hashes) ≡ cond l.found 1 0
