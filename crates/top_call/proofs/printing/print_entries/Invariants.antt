use Rattle.std.proofs.Common.{◌≤◌}
use Rattle.run_io.specs.Bytes.{Wrote}
use Rattle.top_call.proofs.Printed.{printed}
use Rattle.top_call.proofs.printing.print_entries.Given as goal

abbrev pub invariant-loop-entry : goal.invariant-loop-entry
invariant-loop-entry g l = record {
  wrote : Wrote (g.K.Sink.held l.fn.sink) (g.K.Sink.held l.sink) (printed l.fn.core.lines l.fn.core.journal l.entry-index);
  later : g.K.Sink.faults l.fn.sink ≤ g.K.Sink.faults l.sink;
}
