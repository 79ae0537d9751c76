use Rattle.std.proofs.Common.{◌<◌, ◌≤◌, length, ◌∙◌, ap, arith, subst}
use Rattle.run_io.specs.Bytes.{Wrote, WrotePart}
use Rattle.run_io.proofs.shared.Bytes.{wrote_part, wrote_more}
use Rattle.top_call.proofs.Printed.{printed_with, printed_more, printed_all, not_quiet, same_item, on_err}
use Rattle.top_call.proofs.printing.print_entries.Goals as goal

-- the lines of the entries before are written, and a front of this one's, which together are a front of them all
pub returns-in_err-print_entry-clause-part : goal.returns-in_err-print_entry-clause-part
returns-in_err-print_entry-clause-part g c =
    let core = c.args.core.now in
    let item = same_item _ core.journal c.loop-entry.entry-index c.entry-item.result c.journal-entry-items.ensures.journal c.entry-item.is
    in
    let lt : c.loop-entry.entry-index < length core.journal =
    omega (arith, c.loop-entry-test.true, ap length c.journal-entry-items.ensures.journal) in
    on_err c.from_residual.result (subst (WrotePart (g.K.Sink.held c.args.sink.now) (g.K.Sink.held c.print_entry.new.sink))
    (not_quiet core.lines core.journal c.args.quiet c.if-quiet.false)
    (wrote_part _ _ _ _ _ _ c.loop-entry.invariant.wrote c.in_err-print_entry.ensures.part
    (printed_with core.lines core.journal c.loop-entry.entry-index c.entry-item.result lt item)))

-- this entry's line stands behind those of the entries before it, and the sink's faults only rise
pub loop-entry-preserved : goal.loop-entry-preserved
loop-entry-preserved g c =
    let core = c.args.core.now in
    let item = same_item _ core.journal c.loop-entry.entry-index c.entry-item.result c.journal-entry-items.ensures.journal c.entry-item.is
    in
    let lt : c.loop-entry.entry-index < length core.journal =
    omega (arith, c.loop-entry-test.true, ap length c.journal-entry-items.ensures.journal) in
    record {
      wrote = rw (← printed_more core.lines core.journal c.loop-entry.entry-index c.entry-item.result lt item)
          (wrote_more _ _ _ _ _ c.loop-entry.invariant.wrote c.in_ok-print_entry.ensures.wrote);
      later = omega (arith, c.loop-entry.invariant.later, c.print_entry.ensures.later);
    }

-- the lines of all entries are written
pub returns-clause-wrote : goal.returns-clause-wrote
returns-clause-wrote g c =
    let core = c.args.core.now in
    let le : length core.journal ≤ c.loop-entry.entry-index =
    omega (arith, c.loop-entry-test.false, ap length c.journal-entry-items.ensures.journal) in
    subst (Wrote (g.K.Sink.held c.args.sink.now) (g.K.Sink.held c.loop-entry.sink))
    (printed_all core.lines core.journal c.loop-entry.entry-index le ∙ not_quiet core.lines core.journal c.args.quiet c.if-quiet.false)
    c.loop-entry.invariant.wrote
