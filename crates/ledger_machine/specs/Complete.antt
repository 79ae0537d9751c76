-- What the headline says of ledgers: a check answers complete exactly where all that the target reaches is stored and acceptable.
use Rattle.std.specs.Prelude.{◌≡◌, ◌≢◌, ◌↔◌, ◌⊎◌, ◌≤◌, ℕ, List, [], ◌∷◌, Some, IsSomeAnd, IsTrue}
use Rattle.std.specs.List.{Contains}
use Rattle.ledger_spec.specs.declared.Place.{Place}
use Rattle.ledger_spec.specs.declared.ShapeFault.{ShapeFault}
use Rattle.ledger_spec.specs.Maps.{hash_cmp, get_in}
use Rattle.ledger_spec.specs.Bytes.{Bytes, Hash, Half, Lookup, is_nonzero}
use Rattle.ledger_spec.specs.Header.{seq_of, state_root_of}
use Rattle.ledger_spec.specs.Reach.{Reach, Stored, kids}
use Rattle.ledger_spec.specs.Spots.{header_in}
use Rattle.ledger_spec.specs.Findings.{findings, breaks}
use Rattle.ledger_spec.specs.Acquiring.{Acquiring}
use Rattle.ledger_machine.specs.declared.commands.Command.{Command}
use Rattle.ledger_machine.specs.declared.commands.Command.TheVariants as command
use Rattle.ledger_machine.specs.declared.commands.Line.{Line}
use Rattle.ledger_machine.specs.declared.journal.Entry.{Entry}
use Rattle.ledger_spec.specs.declared.replies.CheckReply.TheVariants as check
use Rattle.ledger_machine.specs.declared.commands.Reply.{Reply}
use Rattle.ledger_machine.specs.declared.commands.Reply.TheVariants as says
use Rattle.ledger_machine.specs.State.{State, form_in}
use Rattle.ledger_machine.specs.Runs.{Run}

-- nothing that the target reaches is absent: it is stored, and so is each node that a reached form names
pub record IsAllStored (nodes : Lookup) (t : Hash) : Type 0 where
  pub own : Stored nodes t
  pub named : (h k : Hash) (form : Bytes) → Reach nodes (t ∷ []) h → nodes h ≡ Some form → Contains (kids form) k → Stored nodes k

-- no place of the ledger breaks a rule of shape
abbrev pub IsUnbroken : Half → Lookup → Hash → Type 0
IsUnbroken half nodes t = (place : Place) (fault : ShapeFault) → Contains (findings half nodes t) (breaks place fault) → ⊥

-- a header of the asked sequence, where one was asked for, with a state map, and not below the floor
pub record IsAcceptable (asked floor : ℕ) (header : Bytes) : Type 0 where
  pub seq : (asked ≡ 0) ⊎ (asked ≡ seq_of header)
  pub state : IsTrue (is_nonzero (state_root_of header))
  pub recent : floor ≤ seq_of header

-- a ledger that was asked for so is complete: nothing that its header reaches is absent, and it is acceptable
pub record IsComplete (half : Half) (s : State) (t : Hash) (asked : ℕ) : Type 0 where
  pub stored : IsAllStored (form_in s) t
  pub header : IsSomeAnd (header_in (form_in s) t) (IsAcceptable asked s.floor)
  pub shape : IsUnbroken half (form_in s) t

-- an answer to a check of an open acquisition, which met no fault and had memory, is complete exactly where the ledger is
abbrev pub IsExact : Half → State → Command → Reply → Type 0
IsExact half s (command.Check t) reply =
    (a : Acquiring) → get_in hash_cmp s.wanted t ≡ Some a → reply ≢ says.Fault → reply ≢ says.Memory
    → (reply ≡ says.Check check.Complete) ↔ IsComplete half s t a.seq
IsExact half s _ reply = Unit {0}

-- each check of a run is exact in the state before it
abbrev pub AreExact : (half : Half) (lines : List Line) (s : State) (entries : List Entry) (s' : State)
    → Run half lines s entries s' → Type 0
AreExact half lines s [] s' run = Unit {0}
AreExact half lines s (e ∷ rest) s' run = IsExact half s run.1.line.command e.reply × AreExact half lines run.0 rest s' run.2
