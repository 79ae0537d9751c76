use Rattle.std.specs.List.{filter}
use Rattle.log_shelf.specs.Entries.{entries_of}
use Rattle.log_shelf.specs.Backends.{nodes_after}
use Rattle.log_shelf.proofs.Parsing.{nodes-step, nodes-end, front-shorter}
use Rattle.log_shelf.proofs.recover.add_log.Goals as goal

pub loop-entry-smaller : goal.loop-entry-smaller
loop-entry-smaller g c = front-shorter c.loop-entry.rest.now c.in-Some.entry.now c.in-Some.behind.now c.in-Some.ensures

pub loop-entry-preserved : goal.loop-entry-preserved
loop-entry-preserved g c =
    nodes-step g.T.EntryTest.is_record (nodes_after c.args.found.now (filter g.T.EntryTest.is_record (entries_of c.args.log.now)))
    c.loop-entry.found c.add_entry.new.found
    c.loop-entry.rest.now c.in-Some.entry.now c.in-Some.behind.now c.loop-entry.invariant c.in-Some.ensures c.in_ok-add_entry.ensures

pub returns : goal.returns
returns g c =
    nodes-end g.T.EntryTest.is_record (nodes_after c.args.found.now (filter g.T.EntryTest.is_record (entries_of c.args.log.now)))
    c.loop-entry.found c.loop-entry.rest.now
    c.loop-entry.invariant c.in_default.ensures
