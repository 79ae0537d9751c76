-- What the headline says of each state of a run.
use Rattle.std.specs.Prelude.{ℕ, List, [], ◌∷◌, IsTrue, IsSomeAnd}
use Rattle.std.specs.List.{Contains}
use Rattle.ledger_spec.specs.declared.Kind.{Kind}
use Rattle.ledger_spec.specs.Bytes.{Hash, Half}
use Rattle.ledger_spec.specs.Commits.{Commits}
use Rattle.ledger_spec.specs.Maps.{numbered_cmp, has_in}
use Rattle.ledger_machine.specs.declared.commands.Line.{Line}
use Rattle.ledger_machine.specs.declared.journal.Entry.{Entry}
use Rattle.ledger_machine.specs.Complete.{IsAllStored}
use Rattle.ledger_machine.specs.Reading.{view_root}
use Rattle.ledger_machine.specs.Runs.{Run}
use Rattle.ledger_machine.specs.Scripts.{IsLedgerMap}
use Rattle.ledger_machine.specs.Sound.{Sound}
use Rattle.ledger_machine.specs.State.{State, form_in, retained}

-- The state is sound, nothing that a retained ledger reaches is absent, and each map of an open view has its root in the ledger's header,
-- and is a finite map of items with that root, which the stored nodes commit to.
pub record IsInOrder (half : Half) (s : State) : Type 0 where
  pub sound : Sound half s
  pub present : (t : Hash) → Contains (retained s) t → IsAllStored (form_in s) t
  pub maps : (view : ℕ × ℕ) (kind : Kind) → IsTrue (has_in numbered_cmp s.views view) → IsLedgerMap kind
      → IsSomeAnd (view_root s kind view) (Commits half (form_in s) kind)

-- so is each state of a run, from the first to the last
abbrev pub AreInOrder : (half : Half) (lines : List Line) (s : State) (entries : List Entry) (s' : State)
    → Run half lines s entries s' → Type 0
AreInOrder half lines s [] s' run = IsInOrder half s'
AreInOrder half lines s (e ∷ rest) s' run = IsInOrder half s × AreInOrder half lines run.0 rest s' run.2
