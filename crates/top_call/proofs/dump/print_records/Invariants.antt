use Rattle.std.proofs.Common.{◌≡◌, ◌≤◌}
use Rattle.core_machine.specs.Dumping.{IsHashOrNone, left_after}
use Rattle.top_call.specs.Dump.{LeavesCore}
use Rattle.top_call.proofs.Dumping.{IsGoing}
use Rattle.top_call.proofs.dump.print_records.Given as goal

abbrev pub invariant-loop-one : goal.invariant-loop-one
invariant-loop-one g l = record {
  going : IsGoing g.Sh.B.Backend.tells l.fn.core.state.nodes l.last (g.K.Sink.held l.fn.sink) (g.K.Sink.held l.sink);
  lists : LeavesCore g.Sh.B.Backend.tells l.fn.core l.core;
  missed : l.core.missed ≡ l.fn.core.missed;
  later : g.K.Sink.faults l.fn.sink ≤ g.K.Sink.faults l.sink;
  hash : IsHashOrNone l.last;
}

abbrev pub decreases-loop-one : goal.decreases-loop-one
decreases-loop-one g l = left_after l.last
