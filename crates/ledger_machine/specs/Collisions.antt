-- Two different forms with one hash, of those that a script offers and those that its closes make.
use Rattle.std.specs.Prelude.{◌≡◌, ◌≢◌, ◌⊎◌, ℕ, ◌==◌, Bool, true, false, IsTrue, if◌then◌else◌, List, [], ◌∷◌, ◌++◌, length, Option, None}
use Rattle.std.specs.Prelude.{Some, Result, Ok, Err}
use Rattle.std.specs.List.{flat_map, Contains}
use Rattle.ledger_spec.specs.Maps.{numbered_cmp, get_in}
use Rattle.ledger_spec.specs.Bytes.{Bytes, Hash, Half, is_zero}
use Rattle.ledger_spec.specs.Forms.{Held, form_of, header_prefix}
use Rattle.ledger_spec.specs.Wire.{read_wire}
use Rattle.ledger_machine.specs.declared.commands.Command.{Command}
use Rattle.ledger_machine.specs.declared.commands.Command.TheVariants as command
use Rattle.ledger_machine.specs.declared.commands.Line.{Line}
use Rattle.ledger_machine.specs.declared.commands.Record.{Record}
use Rattle.ledger_machine.specs.declared.journal.Entry.{Entry}
use Rattle.ledger_machine.specs.State.{State}
use Rattle.ledger_machine.specs.Closing.{closes_into}
use Rattle.ledger_machine.specs.Runs.{Run, IsRunOf, opening_of}
use Rattle.ledger_machine.specs.Records.{forms_of}
use Rattle.ledger_machine.specs.declared.commands.Reply.{Reply}
use Rattle.ledger_machine.specs.declared.commands.Reply.TheVariants as says

-- the form of what is read, where it is read
abbrev pub form_read : Result Held ℕ → List Bytes
form_read (Ok n) = form_of n ∷ []
form_read (Err cause) = []

-- the form of the node that a part is
abbrev pub part_form : Half → Option Bytes → List Bytes
part_form half None = []
part_form half (Some blob) = form_read (read_wire half blob)

-- the form of a header, where the bytes are as many as one has
abbrev pub head_form : Bytes → List Bytes
head_form bytes = if length bytes == 118 then (header_prefix ++ bytes) ∷ [] else []

-- the forms that a peer's reply offers
abbrev pub offered_by : Half → Command → List Bytes
offered_by half (command.Base p t bytes state tx) = head_form bytes ++ part_form half state ++ part_form half tx
offered_by half (command.Node p t kind path blob) = part_form half (Some blob)
offered_by half _ = []

-- the forms that a script of these records and lines offers
abbrev pub offered_in : Half → List Record → List Line → List Bytes
offered_in half records lines = forms_of records ++ flat_map (λ l. offered_by half l.command) lines

-- two different ones of these forms have one hash
pub record Collides (half : Half) (forms : List Bytes) : Type 0 where
  pub one : Bytes
  pub other : Bytes
  pub first : Contains forms one
  pub second : Contains forms other
  pub different : one ≢ other
  pub same : half one ≡ half other

-- the forms that a command makes: those of the ledger that a session closes into
abbrev pub made_by : Half → State → ℕ → Command → List Bytes
made_by half s a (command.Close x fields) = closes_into half s fields (get_in numbered_cmp s.sessions (a, x))
made_by half s a _ = []

-- those that the commands of a run make, each in the state before it
abbrev pub made_along : (half : Half) (lines : List Line) (s : State) (entries : List Entry) (s' : State)
    → Run half lines s entries s' → List Bytes
made_along half lines s [] s' run = []
made_along half lines s (e ∷ rest) s' run =
    made_by half s e.actor run.1.line.command ++ made_along half lines run.0 rest s' run.2

-- the forms that a run of a script brings: its records and lines offer them, or its commands make them
abbrev pub brought_by : (half : Half) (records : List Record) (lines : List Line) (interval : ℕ) (entries : List Entry) (s' : State)
    → IsRunOf half records lines interval entries s' → List Bytes
brought_by half records lines interval entries s' run =
    offered_in half records lines ++ made_along half lines (opening_of records interval) entries s' run

-- one of these forms has the zero hash
pub record HasZero (half : Half) (forms : List Bytes) : Type 0 where
  pub form : Bytes
  pub among : Contains forms form
  pub zero : IsTrue (is_zero (half form))

-- two different ones of these forms have this hash
pub record Clashes (half : Half) (forms : List Bytes) (h : Hash) (old new : Bytes) : Type 0 where
  pub first : Contains forms old
  pub second : Contains forms new
  pub different : old ≢ new
  pub old_hash : half old ≡ h
  pub new_hash : half new ≡ h

-- what a reply shows of forms: a clash that its two forms are among them, differ and have its hash, a zero hash that its form is one of
-- them and has it
abbrev pub ShowsIn : Half → List Bytes → Reply → Type 0
ShowsIn half forms (says.Clash h old new) = Clashes half forms h old new
ShowsIn half forms (says.ZeroHash form) = Contains forms form × IsTrue (is_zero (half form))
ShowsIn half forms _ = Unit {0}

-- two different ones of these forms have one hash, or one of them has the zero hash
abbrev pub IsShown : Half → List Bytes → Type 0
IsShown half forms = Collides half forms ⊎ HasZero half forms

-- the reply shows a form under a hash that has another, or a form whose hash is zero
abbrev pub is_clash : Reply → Bool
is_clash (says.Clash h old new) = true
is_clash (says.ZeroHash form) = true
is_clash _ = false
