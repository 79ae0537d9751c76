-- Runs of the machine along a journal, and what a journal is to its script.
use Rattle.std.specs.Prelude.{◌≡◌, ◌≢◌, ℕ, ◌<◌, ◌==◌, Bool, false, List, [], ◌∷◌, map, length, slice_get, Option, Some, IsSomeAnd}
use Rattle.std.specs.List.{filter, list_any, Contains}
use Rattle.std.specs.FinMap as finite
use mathlib.Core.List.{IsPrefix}
use Rattle.shamap_node.specs.Nodes.{held}
use Rattle.ledger_spec.specs.Bytes.{Half}
use Rattle.ledger_spec.specs.Forms.{Held}
use Rattle.ledger_machine.specs.declared.commands.Line.{Line}
use Rattle.ledger_machine.specs.declared.commands.Record.{Record}
use Rattle.ledger_machine.specs.declared.journal.Entry.{Entry}
use Rattle.ledger_machine.specs.Limits.{actors}
use Rattle.ledger_machine.specs.State.{State, opening}
use Rattle.ledger_machine.specs.Steps.{Step}
use Rattle.ledger_machine.specs.Records.{with_records}
use Rattle.ledger_machine.specs.Scripts.{line_of, numbers_of}

abbrev pub used_by : Entry → List Held
used_by e = map (λ a. held a.value) e.used.items

-- the entry answers a line of the script, by a step
pub record Answers (half : Half) (lines : List Line) (s : State) (e : Entry) (s' : State) : Type 0 where
  pub place : ℕ
  pub line : Line
  pub stands : slice_get lines place ≡ Some line
  pub number : e.line ≡ line.number
  pub actor : e.actor ≡ line.actor
  pub step : Step half s e.actor line.command e.reply (used_by e) s'

-- one step for each entry
abbrev pub Run : Half → List Line → State → List Entry → State → Type 0
Run half lines s [] s' = s' ≡ s
Run half lines s (e ∷ rest) s' = (mid : State) × Answers half lines s e mid × Run half lines mid rest s'

-- the opening of a script of these records with an interval: the records, all of them born in epoch 0
abbrev pub opening_of : List Record → ℕ → State
opening_of records interval = opening (with_records finite.empty records) interval

-- the journal is a run of a script of these records and lines from its opening to the state
abbrev pub IsRunOf : Half → List Record → List Line → ℕ → List Entry → State → Type 0
IsRunOf half records lines interval journal s = Run half lines (opening_of records interval) journal s

-- the numbers of the lines that an actor's entries answer, in order
abbrev pub answered_by : ℕ → List Entry → List ℕ
answered_by actor entries = map (λ e. e.line) (filter (λ e. e.actor == actor) entries)

-- each line that an entry's line waits for was answered before; `done` are the lines answered so far
abbrev pub Waits : List Line → List ℕ → List Entry → Type 0
Waits lines done [] = Unit {0}
Waits lines done (e ∷ rest) =
    ((l : Line) → line_of lines e.line ≡ Some l → l.after ≢ 0 → Contains done l.after) × Waits lines (e.line ∷ done) rest

-- each actor's entries are for its first lines, in order, each once, and none stands before the line that it waits for
pub record Projects (lines : List Line) (entries : List Entry) : Type 0 where
  pub fronts : (a : ℕ) → a < actors → IsPrefix (answered_by a entries) (numbers_of a lines)
  pub waits : Waits lines [] entries

-- each line has its entry
abbrev pub IsFull : List Line → List Entry → Type 0
IsFull lines entries = (a : ℕ) → a < actors → answered_by a entries ≡ numbers_of a lines

-- the actor has no line left
abbrev pub IsDone : List Line → List Entry → ℕ → Type 0
IsDone lines journal a = answered_by a journal ≡ numbers_of a lines

-- the line of this number has its entry
abbrev pub is_answered : List Entry → ℕ → Bool
is_answered journal number = list_any (λ e. e.line == number) journal

-- the actor's next line: as many of its lines stand before it as the actor has entries
abbrev pub next_line : List Line → List Entry → ℕ → Option Line
next_line lines journal a = slice_get (filter (λ l. l.actor == a) lines) (length (answered_by a journal))

-- the actor's next line waits for a line that has no entry yet
abbrev pub IsBlocked : List Line → List Entry → ℕ → Type 0
IsBlocked lines journal a = IsSomeAnd (next_line lines journal a) (λ l. (l.after ≢ 0) × (is_answered journal l.after ≡ false))
