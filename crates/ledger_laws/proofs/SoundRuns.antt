-- Runs keep a state sound.
use Rattle.std.proofs.Common.{◌≡◌, ℕ, List, [], ◌∷◌, Some, Contains, slice_get, sym}
use Rattle.std.proofs.Common.{subst}
use Rattle.std.proofs.lemmas.Option.{slice_get_within, get_or_from_slice_get}
use Rattle.ledger_spec.specs.Bytes.{Half, IsHalf}
use Rattle.ledger_machine.specs.declared.commands.Line.{Line}
use Rattle.ledger_machine.specs.declared.journal.Entry.{Entry}
use Rattle.ledger_machine.specs.State.{State}
use Rattle.ledger_machine.specs.Commands.{IsInRange}
use Rattle.ledger_machine.specs.Sound.{Sound}
use Rattle.ledger_machine.specs.Runs.{Run, used_by}
use Rattle.ledger_laws.proofs.EachCommand.{step_sound}

-- a line at a place is a line of the script
pub line_at : (lines : List Line) (place : ℕ) (l : Line) → slice_get lines place ≡ Some l → Contains lines l
line_at lines place l e = (place, slice_get_within lines place l e, get_or_from_slice_get lines place l l e)

-- each run over such commands leads from a sound state to a sound state
pub run_sound : (half : Half) (sized : IsHalf half) (lines : List Line) (s : State) (entries : List Entry)
    (s' : State)
    → ((l : Line) → Contains lines l → IsInRange l.command) → Sound half s → Run half lines s entries s'
    → Sound half s'
run_sound half sized lines s [] s' each sound run = subst (λ x. Sound half x) (sym run) sound
run_sound half sized lines s (e ∷ rest) s' each sound run =
    let line : Line = run.1.line in
    let fit : IsInRange line.command = each line (line_at lines run.1.place line run.1.stands) in
    run_sound half sized lines run.0 rest s' each
    (step_sound half sized s run.0 e.actor line.command e.reply (used_by e) fit sound run.1.step) run.2
