-- What is printed of a dump.
use Rattle.std.specs.Prelude.{◌≡◌, ◌≤◌, ℕ, Bool, IsTrue, List, [], ◌∷◌, flat_map, Option, None, Some, Result, Ok, Err}
use mathlib.Core.List.{IsPrefix}
use Rattle.ledger_spec.specs.Bytes.{Bytes, Hash, Nodes}
use Rattle.ledger_machine.specs.declared.commands.Record.{Record}
use Rattle.run_io.specs.Bytes.{Wrote, WrotePart}
use Rattle.run_io.specs.declared.io.AllFault.{AllFault}
use Rattle.run_io.specs.declared.io.AllFault.TheVariants as sinks
use Rattle.node_backend.specs.Counts.{held_sum}
use Rattle.journal_text.specs.Text.{record_text}
use Rattle.store_core.specs.declared.core_calls.OpenFault.{OpenFault}
use Rattle.store_core.specs.declared.core_calls.OpenFault.TheVariants as opens
use Rattle.core_machine.specs.Dumping.{records_of, Follows}
use Rattle.store_core.specs.Journal.{CoreView}
use Rattle.top_call.specs.declared.dump.DumpEnd.{DumpEnd}
use Rattle.top_call.specs.declared.dump.DumpEnd.TheVariants as ends
use Rattle.top_call.specs.declared.dump.DumpFault.{DumpFault}
use Rattle.top_call.specs.declared.dump.DumpFault.TheVariants as faults

-- a line for each stored record, hashes rising
abbrev pub dump_text : Nodes → Bytes
dump_text nodes = flat_map record_text (records_of nodes)

-- the dump's name for what the core answers, and for what printing meets
abbrev pub of_open : OpenFault → DumpFault
of_open opens.Fault = faults.Store
of_open opens.Memory = faults.Memory

abbrev pub of_sink : AllFault → DumpFault
of_sink sinks.Fault = faults.Sink
of_sink sinks.Memory = faults.Memory

-- What a dump leaves of its core: what that was opened with, its journal, its state, its views, its marks, its searches and the count of
-- slices, but that a store that doesn't tell what it holds may hold anything.
pub record LeavesCore (told : Bool) (old new : CoreView) : Type 0 where
  pub records : new.records ≡ old.records
  pub lines : new.lines ≡ old.lines
  pub interval : new.interval ≡ old.interval
  pub opened : new.opened ≡ old.opened
  pub journal : new.journal ≡ old.journal
  pub later : old.faults ≤ new.faults
  pub state : IsTrue told → new.state ≡ old.state
  pub tables : new.state ≡ record old.state { nodes = new.state.nodes; born = new.state.born }
  pub views : new.views ≡ old.views
  pub marks : new.marks ≡ old.marks
  pub hunts : new.hunts ≡ old.hunts
  pub slices : new.slices ≡ old.slices

-- how many calls were missed, one more where the store failed
abbrev pub missed_by : Result (Unit {0}) DumpFault → ℕ → ℕ
missed_by (Err faults.Store) n = held_sum n 1
missed_by _ n = n

-- each record's hash comes after that of the record before, and the first one's after this
abbrev pub AreRising : Option Hash → List Record → Type 0
AreRising after [] = Unit {0}
AreRising after (r ∷ records) = Follows after r.hash × AreRising (Some r.hash) records

-- the lines of some records, hashes rising
pub record AreLines (text : Bytes) : Type 0 where
  pub records : List Record
  pub rising : AreRising None records
  pub lines : text ≡ flat_map record_text records

-- a front of such lines
pub record AreFront (text : Bytes) : Type 0 where
  pub all : Bytes
  pub lines : AreLines all
  pub front : IsPrefix text all

-- what was printed of a dump, by how it ended: lines of records, or a front of that; where the store tells what it holds it is the whole
-- text, or a front of it
abbrev pub IsDumped : Bool → Nodes → DumpEnd → Bytes → Type 0
IsDumped told nodes ends.NotAsked text = text ≡ []
IsDumped told nodes ends.Whole text = AreLines text × (IsTrue told → text ≡ dump_text nodes)
IsDumped told nodes ends.Faulted text = AreLines text × (IsTrue told → IsPrefix text (dump_text nodes))
IsDumped told nodes ends.Cut text = AreFront text × (IsTrue told → IsPrefix text (dump_text nodes))

-- the dump was asked for and wasn't cut
abbrev pub IsUncut : DumpEnd → Type 0
IsUncut ends.NotAsked = ⊥
IsUncut ends.Whole = Unit {0}
IsUncut ends.Faulted = Unit {0}
IsUncut ends.Cut = ⊥

-- what printing a dump leaves in the sink
abbrev pub Dumps : Bool → Nodes → Option Bytes → Option Bytes → Result (Unit {0}) DumpFault → Type 0
Dumps told nodes held now (Ok u) = (text : Bytes) × IsDumped told nodes ends.Whole text × Wrote held now text
Dumps told nodes held now (Err faults.Store) = (text : Bytes) × IsDumped told nodes ends.Faulted text × Wrote held now text
Dumps told nodes held now (Err e) = (text : Bytes) × IsDumped told nodes ends.Cut text × WrotePart held now text
