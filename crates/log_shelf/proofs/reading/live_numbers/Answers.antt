use Rattle.log_shelf.specs.Entries.{entries_of}
use Rattle.log_shelf.specs.Manifests.{live_of}
use Rattle.log_shelf.proofs.Parsing.{live-step, live-end, front-shorter}
use Rattle.log_shelf.proofs.reading.live_numbers.Goals as goal

pub loop-entry-smaller : goal.loop-entry-smaller
loop-entry-smaller c = front-shorter c.loop-entry.rest.now c.in-Some.entry.now c.in-Some.behind.now c.in-Some.ensures

pub loop-entry-preserved : goal.loop-entry-preserved
loop-entry-preserved c =
    live-step (live_of (entries_of c.args.manifest.now)) c.loop-entry.live.items c.note_entry.new.live.items c.loop-entry.rest.now
    c.in-Some.entry.now c.in-Some.behind.now
    c.loop-entry.invariant c.in-Some.ensures c.in_ok-note_entry.ensures

pub returns : goal.returns
returns c = live-end (live_of (entries_of c.args.manifest.now)) c.loop-entry.live.items c.loop-entry.rest.now c.loop-entry.invariant
    c.in_default.ensures
