-- What is printed of a run.
use Rattle.std.specs.Prelude.{ℕ, List, [], ◌∷◌, ◌++◌, Bool, true, false, codes, flat_map, nat_lt, ◌||◌, if◌then◌else◌}
use Rattle.std.specs.Option.{option_map_or}
use Rattle.std.specs.List.{list_any}
use Rattle.std.specs.Fmt.{decimal}
use Rattle.ledger_spec.specs.Bytes.{Bytes}
use Rattle.ledger_machine.specs.declared.commands.Line.{Line}
use Rattle.ledger_machine.specs.declared.journal.Entry.{Entry}
use Rattle.ledger_machine.specs.declared.journal.Totals.{Totals}
use Rattle.ledger_machine.specs.declared.commands.Reply.{Reply}
use Rattle.ledger_machine.specs.declared.commands.Reply.TheVariants as says
use Rattle.ledger_machine.specs.Scripts.{line_of}
use Rattle.ledger_machine.specs.Collisions.{is_clash}
use Rattle.journal_text.specs.Text.{entry_text, summary_text}
use Rattle.top_call.specs.declared.status.TheConstants.{FINE, STORE_FAILED, CLASHED, NO_MEMORY}

-- the line of an entry, which names the command that it answers
abbrev pub entry_line : List Line → Entry → Bytes
entry_line lines e = option_map_or (λ l. entry_text l.command e) (line_of lines e.line) []

-- the lines of the entries in order; none of a quiet run
abbrev pub entry_lines : Bool → List Line → List Entry → Bytes
entry_lines true lines journal = []
entry_lines false lines journal = flat_map (entry_line lines) journal

-- then the summary
abbrev pub output : Bool → List Line → List Entry → Totals → Bytes
output quiet lines journal totals = entry_lines quiet lines journal ++ summary_text totals

-- what is printed for other words
abbrev pub usage_text : Bytes
usage_text = codes "usage: ledger_run replay | swarm" ++ 10 ∷ []

-- what is printed of a refused script: its line and cause
abbrev pub refused_text : ℕ → ℕ → Bytes
refused_text line cause = codes "refused " ++ decimal line ++ codes " " ++ decimal cause ++ 10 ∷ []

-- the reply is `fault`
abbrev pub is_fault : Reply → Bool
is_fault says.Fault = true
is_fault _ = false

-- the reply is `memory`
abbrev pub is_memory : Reply → Bool
is_memory says.Memory = true
is_memory _ = false

-- the entry shows a clash or a zero hash
abbrev pub shows_clash : Entry → Bool
shows_clash e = is_clash e.reply

-- met a fault
abbrev pub met_fault : Entry → Bool
met_fault e = is_fault e.reply

-- wanted memory
abbrev pub wanted_memory : Entry → Bool
wanted_memory e = is_memory e.reply

-- the status of a journal that was printed whole, and of the calls for a dump that failed: of a clash or a zero hash, else of a fault or
-- such a call, else of want of memory
abbrev pub status_of : List Entry → ℕ → ℕ
status_of journal missed =
    if list_any shows_clash journal then CLASHED
    else if list_any met_fault journal || nat_lt 0 missed then STORE_FAILED
    else if list_any wanted_memory journal then NO_MEMORY
    else FINE
