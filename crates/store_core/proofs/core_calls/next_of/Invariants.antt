use Rattle.std.proofs.Common.{◌≡◌, ◌+◌, [], take, drop}
use Rattle.ledger_machine.specs.Scripts.{numbers_of}
use Rattle.store_core.proofs.core_calls.next_of.Given as goal

abbrev pub invariant-loop-line : goal.invariant-loop-line
invariant-loop-line l = (l.at ≡ l.from + l.line-index) × (numbers_of l.actor (take l.line-index (drop l.from l.lines)) ≡ [])
