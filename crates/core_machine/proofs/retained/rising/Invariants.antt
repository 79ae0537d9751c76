-- the keys are the hashes up to here
use Rattle.std.proofs.Common.{take}
use Rattle.core_machine.specs.Retaining.{HaveKeys}
use Rattle.core_machine.proofs.retained.rising.Given as goal

abbrev pub invariant-loop-hash : goal.invariant-loop-hash
invariant-loop-hash l = HaveKeys l.found.entries (take l.hash-index l.hashes)
