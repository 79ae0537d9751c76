use Rattle.std.proofs.Common.{◌≡◌, length}
use Rattle.std.specs.List.{filter}
use Rattle.log_shelf.specs.Entries.{entries_of}
use Rattle.log_shelf.specs.Backends.{nodes_after}
use Rattle.log_shelf.proofs.recover.add_log.Given as goal

-- what the entries so far and those that are left come to is what all do
abbrev pub invariant-loop-entry : goal.invariant-loop-entry
invariant-loop-entry g l =
    nodes_after l.found (filter g.T.EntryTest.is_record (entries_of l.rest)) ≡ nodes_after l.fn.found (filter g.T.EntryTest.is_record
    (entries_of l.log))

abbrev pub decreases-loop-entry : goal.decreases-loop-entry
decreases-loop-entry g l = length l.rest
