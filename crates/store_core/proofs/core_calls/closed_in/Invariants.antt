use Rattle.std.proofs.Common.{◌≡◌, ◌≤◌, take}
use Rattle.std.specs.Prelude.{count_by}
use Rattle.core_machine.specs.Totals.{is_closed}
use Rattle.store_core.proofs.core_calls.closed_in.Given as goal

abbrev pub invariant-loop-entry : goal.invariant-loop-entry
invariant-loop-entry l = record {
  value : l.count ≡ count_by is_closed (take l.entry-index l.journal);
  few : l.count ≤ l.entry-index;
}
