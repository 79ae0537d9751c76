use Rattle.std.proofs.Common.{length, take, IsTrue, ◌==◌}
use Rattle.std.specs.List.{list_all}
use Rattle.shamap_node.proofs.parts.known_sizes.Given as goal

-- the hashes so far have 32 bytes each
abbrev pub invariant-loop-h : goal.invariant-loop-h
invariant-loop-h l = IsTrue (list_all (λ h. length h == 32) (take l.h-index l.hashes))
