use Rattle.std.proofs.Common.{◌≡◌, ◌++◌, length}
use Rattle.std.specs.FinMap as finite
use Rattle.log_recovery.specs.Records.{records_of}
use Rattle.log_recovery.proofs.records.records_in.Given as goal

-- the records so far, and those that are left, are all
abbrev pub invariant-loop-hash : goal.invariant-loop-hash
invariant-loop-hash l = l.records.items ++ records_of l.found ≡ records_of l.fn.found

abbrev pub decreases-loop-hash : goal.decreases-loop-hash
decreases-loop-hash l = length (finite.entries l.found)
