use Rattle.std.proofs.Common.{◌-◌, ◌≤◌, length}
use Rattle.store_core.specs.Journal.{AllBefore, AllFrom}
use Rattle.store_core.proofs.core_calls.first_from.Given as goal

abbrev pub invariant-loop-low : goal.invariant-loop-low
invariant-loop-low l = record {
  order : l.low ≤ l.high;
  within : l.high ≤ length l.lines;
  below : AllBefore l.lines l.low l.number;
  above : AllFrom l.lines l.high l.number;
}

abbrev pub decreases-loop-low : goal.decreases-loop-low
decreases-loop-low l = l.high - l.low
