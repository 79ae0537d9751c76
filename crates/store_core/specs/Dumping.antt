-- What a core says where it lists what is stored.
use Rattle.std.specs.Prelude.{◌≡◌, ◌≤◌, ℕ, Result, Err, ◌-◌, Bool, IsTrue, List, Option}
use Rattle.ledger_machine.specs.declared.commands.Record.{Record}
use Rattle.ledger_machine.specs.Runs.{opening_of}
use Rattle.rotating_store.specs.Stores.{Store, nodes_of}
use Rattle.node_backend.specs.Counts.{held_sum}
use Rattle.store_core.specs.declared.core_calls.OpenFault.{OpenFault}
use Rattle.store_core.specs.declared.core_calls.OpenFault.TheVariants as faults
use Rattle.node_backend.specs.declared.back.BackFault.TheVariants as back
use Rattle.run_io.specs.Bytes.{Rose}
use Rattle.store_core.specs.Journal.{CoreView, CopiesAFew}
use Rattle.core_machine.specs.Dumping.{HoldsOf}

-- a core that was opened with these records over a shelf that had failed so often
pub record IsOpened (told : Bool) (records : List Record) (interval faults : ℕ) (c : CoreView) : Type 0 where
  pub counted : c.opened ≡ c.faults
  pub since : faults ≤ c.opened
  pub state : IsTrue told → c.state ≡ opening_of records interval

-- a store that is handed back in place of a core, since it failed: its count rose, and nothing but records of the script is stored in it
pub record IsHandedBack (told : Bool) (records : List Record) (faults : ℕ) (s : Store) : Type 0 where
  pub rose : Rose faults s.faults
  pub held : IsTrue told → HoldsOf records (nodes_of s)

-- A call that only reads: what a core was opened with, its journal, its state, its views, its marks and its searches are as before, but
-- that a store that doesn't tell what it holds may hold anything. Nothing is copied.
pub record Lists (told : Bool) (old new : CoreView) : Type 0 where
  pub records : new.records ≡ old.records
  pub lines : new.lines ≡ old.lines
  pub interval : new.interval ≡ old.interval
  pub opened : new.opened ≡ old.opened
  pub journal : new.journal ≡ old.journal
  pub later : old.faults ≤ new.faults
  pub state : IsTrue told → new.state ≡ old.state
  pub tables : new.state ≡ record old.state { nodes = new.state.nodes; born = new.state.born }
  pub views : new.views ≡ old.views
  pub marks : new.marks ≡ old.marks
  pub hunts : new.hunts ≡ old.hunts
  pub copies : IsTrue told → CopiesAFew old new
  pub slices : new.slices ≡ old.slices

-- each fault of such a call is missed; the count holds at its last value
abbrev pub missed_after : Result (Option Record) OpenFault → ℕ → ℕ
missed_after (Err faults.Fault) n = held_sum n 1
missed_after _ n = n
