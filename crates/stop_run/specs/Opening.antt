-- A core that is opened again over what a stop left of another one's store.
use Rattle.std.specs.Prelude.{◌≡◌, ℕ, true, List, length, count_by}
use Rattle.std.specs.List.{All}
use Rattle.ledger_spec.specs.Bytes.{Hash, Half}
use Rattle.ledger_machine.specs.declared.commands.Record.{Record}
use Rattle.ledger_machine.specs.Runs.{IsFull, opening_of}
use Rattle.ledger_machine.specs.Sound.{IsWholeLedger}
use Rattle.ledger_machine.specs.State.{form_in}
use Rattle.store_core.specs.Journal.{CoreView, IsJournal}
use Rattle.core_machine.specs.Retaining.{AreRetained}
use Rattle.core_machine.specs.Totals.{is_complete}
use Rattle.stop_run.specs.Looking.{lines_for, AreLucky}

-- how many replies of a core's journal are `complete`
abbrev pub complete_in : CoreView → ℕ
complete_in d = count_by is_complete d.journal

-- The core was opened with what is recovered, and nothing that a retained ledger reaches is lost.
pub record IsReopened (half : Half) (AreLeft : List Record → Type 0) (interval : ℕ) (c d : CoreView) : Type 0 where
  -- the ledgers that the first core retains
  pub hashes : List Hash
  pub retained : AreRetained c.state hashes
  -- each is whole in the store with which the second one was opened, which has what was recovered and nothing else
  pub records : AreLeft d.records
  pub whole : All (IsWholeLedger half (form_in (opening_of d.records interval))) hashes
  -- its lines want and check each
  pub lines : d.lines ≡ lines_for hashes
  pub interval_is : d.interval ≡ interval
  -- each line has its entry, in a run of the machine in which no store failed and memory was never wanted
  pub kept : IsJournal half true d
  pub full : IsFull d.lines d.journal
  pub lucky : AreLucky d.journal
  -- and each of these ledgers is complete
  pub complete : complete_in d ≡ length hashes
