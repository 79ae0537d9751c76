-- What a run keeps, and how far it has come in line order.
use Rattle.std.specs.Prelude.{◌≡◌, ℕ, List, true, take}
use Rattle.std.specs.List.{All, Contains}
use Rattle.ledger_machine.specs.declared.commands.Line.{Line}
use Rattle.ledger_machine.specs.declared.commands.Record.{Record}
use Rattle.ledger_machine.specs.declared.journal.Entry.{Entry}
use Rattle.ledger_machine.specs.Runs.{is_answered}
use Rattle.store_core.specs.Journal.{CoreView}

-- which run it is: what its core was opened with, and what it has missed
pub record RunOf : Type 0 where
  pub records : List Record
  pub lines : List Line
  pub interval : ℕ
  pub opened : ℕ
  pub missed : ℕ

-- a core of this run
pub record IsOf (run : RunOf) (c : CoreView) : Type 0 where
  pub records : c.records ≡ run.records
  pub lines : c.lines ≡ run.lines
  pub interval : c.interval ≡ run.interval
  pub opened : c.opened ≡ run.opened
  pub missed : c.missed ≡ run.missed

-- the same script, interval and count of faults at opening, and nothing missed meanwhile
pub record IsSameRun (old new : CoreView) : Type 0 where
  pub records : new.records ≡ old.records
  pub lines : new.lines ≡ old.lines
  pub interval : new.interval ≡ old.interval
  pub opened : new.opened ≡ old.opened
  pub missed : new.missed ≡ old.missed

-- the first n lines have their entries
abbrev pub AreAnswered : List Line → List Entry → ℕ → Type 0
AreAnswered lines journal n = All (λ l. is_answered journal l.number ≡ true) (take n lines)

-- all lines are of one actor
abbrev pub AreOfOne : List Line → Type 0
AreOfOne lines = (a : ℕ) × ((l : Line) → Contains lines l → l.actor ≡ a)
