-- What the headline says of reads: each answers what every map with the view's root has, or shows two nodes with one hash.
use Rattle.std.specs.Prelude.{◌≡◌, ℕ, List, [], ◌∷◌, Some}
use Rattle.ledger_spec.specs.Bytes.{Hash, Half, Items}
use Rattle.ledger_spec.specs.Forms.{Held}
use Rattle.ledger_spec.specs.Pages.{IsPageOrShows}
use Rattle.ledger_spec.specs.Reads.{Outcome, AnswersOrShows}
use Rattle.ledger_machine.specs.declared.commands.Command.{Command}
use Rattle.ledger_machine.specs.declared.commands.Command.TheVariants as command
use Rattle.ledger_machine.specs.declared.commands.Line.{Line}
use Rattle.ledger_machine.specs.declared.journal.Entry.{Entry}
use Rattle.ledger_machine.specs.declared.commands.Reply.{Reply}
use Rattle.ledger_machine.specs.State.{State}
use Rattle.ledger_machine.specs.Reading.{view_root, outcome_of, page_of}
use Rattle.ledger_machine.specs.Runs.{Run, used_by}

-- an answer of a read is that of every map of this kind with the view's root, or the nodes used show two different nodes with one hash
abbrev pub IsEveryMaps : Half → State → ℕ → Command → Reply → List Held → Type 0
IsEveryMaps half s a (command.Get v kind key) reply used =
    (root : Hash) (outcome : Outcome) → view_root s kind (a, v) ≡ Some root → outcome_of reply ≡ Some outcome
    → AnswersOrShows half kind root key used outcome
IsEveryMaps half s a (command.Page v kind key n) reply used =
    (root : Hash) (page : Items) → view_root s kind (a, v) ≡ Some root → page_of reply ≡ Some page
    → IsPageOrShows half kind root key n used page
IsEveryMaps half s a _ reply used = Unit {0}

-- each read of a run is so, of the view in the state before it
abbrev pub AreEveryMaps : (half : Half) (lines : List Line) (s : State) (entries : List Entry) (s' : State)
    → Run half lines s entries s' → Type 0
AreEveryMaps half lines s [] s' run = Unit {0}
AreEveryMaps half lines s (e ∷ rest) s' run =
    IsEveryMaps half s e.actor run.1.line.command e.reply (used_by e) × AreEveryMaps half lines run.0 rest s' run.2
