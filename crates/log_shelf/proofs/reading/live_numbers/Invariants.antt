use Rattle.std.proofs.Common.{◌≡◌, length}
use Rattle.log_shelf.specs.Entries.{entries_of}
use Rattle.log_shelf.specs.Manifests.{live_after, live_of}
use Rattle.log_shelf.proofs.reading.live_numbers.Given as goal

-- what the entries so far and those that are left come to is what all do
abbrev pub invariant-loop-entry : goal.invariant-loop-entry
invariant-loop-entry l = live_after l.live.items (entries_of l.rest) ≡ live_of (entries_of l.manifest)

abbrev pub decreases-loop-entry : goal.decreases-loop-entry
decreases-loop-entry l = length l.rest
