-- Whether ledgers are whole in a store: each is wanted and checked.
use Rattle.std.specs.Prelude.{◌≡◌, ◌+◌, ℕ, Bool, true, false, List, [], ◌∷◌}
use Rattle.std.specs.List.{All}
use Rattle.ledger_spec.specs.Bytes.{Hash}
use Rattle.ledger_machine.specs.declared.commands.Command.{Command}
use Rattle.ledger_machine.specs.declared.commands.Command.TheVariants as command
use Rattle.ledger_machine.specs.declared.commands.Line.{Line}
use Rattle.ledger_machine.specs.declared.journal.Entry.{Entry}
use Rattle.ledger_machine.specs.declared.commands.Reply.{Reply}
use Rattle.ledger_machine.specs.declared.commands.Reply.TheVariants as says

-- a line of actor 0 that waits for none
abbrev pub line_with : ℕ → Command → Line
line_with n c = record { number = n; actor = 0; after = 0; command = c }

-- the lines by which each ledger is wanted, in any sequence, and checked, numbered from behind n
abbrev pub lines_behind : ℕ → List Hash → List Line
lines_behind n [] = []
lines_behind n (t ∷ ts) = line_with (n + 1) (command.Want t 0) ∷ line_with (n + 2) (command.Check t) ∷ lines_behind (n + 2) ts

-- the same, numbered from 1
abbrev pub lines_for : List Hash → List Line
lines_for ts = lines_behind 0 ts

-- memory was wanted, or the store failed
abbrev pub is_unlucky : Reply → Bool
is_unlucky says.Memory = true
is_unlucky says.Fault = true
is_unlucky _ = false

abbrev pub is_unlucky_entry : Entry → Bool
is_unlucky_entry e = is_unlucky e.reply

-- neither in any of the entries
abbrev pub AreLucky : List Entry → Type 0
AreLucky journal = All (λ e. is_unlucky e.reply ≡ false) journal
