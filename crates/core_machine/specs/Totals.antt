-- The numbers of a run's summary.
use Rattle.std.specs.Prelude.{ℕ, Bool, true, false, List, length, count_by}
use Rattle.ledger_machine.specs.declared.journal.Entry.{Entry}
use Rattle.ledger_machine.specs.declared.journal.Totals.{Totals}
use Rattle.ledger_machine.specs.declared.commands.Reply.{Reply}
use Rattle.ledger_machine.specs.declared.commands.Reply.TheVariants as says
use Rattle.ledger_spec.specs.declared.replies.CheckReply.TheVariants as check
use Rattle.ledger_machine.specs.declared.commands.CloseReply.TheVariants as close
use Rattle.ledger_machine.specs.State.{State}

abbrev pub completes : Reply → Bool
completes (says.Check check.Complete) = true
completes _ = false

abbrev pub closes : Reply → Bool
closes (says.Close (close.Closed h)) = true
closes _ = false

abbrev pub is_complete : Entry → Bool
is_complete e = completes e.reply

abbrev pub is_closed : Entry → Bool
is_closed e = closes e.reply

-- how many replies are `complete`, how many `closed`, and the listed ledgers, the floor, `last` and the epoch at the end
abbrev pub totals_by : ℕ → ℕ → State → Totals
totals_by complete closed s = record {
  complete = complete;
  closed = closed;
  listed = length s.listed;
  floor = s.floor;
  last = s.last;
  epoch = s.epoch;
}

abbrev pub totals_of : List Entry → State → Totals
totals_of journal s = totals_by (count_by is_complete journal) (count_by is_closed journal) s
