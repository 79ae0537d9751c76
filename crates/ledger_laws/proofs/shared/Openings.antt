-- A store that has only records is sound. For proofs of other crates.
use Rattle.std.proofs.Common.{ℕ, List}
use Rattle.std.specs.FinMap as finite
use Rattle.ledger_spec.specs.Bytes.{Half}
use Rattle.ledger_machine.specs.declared.commands.Record.{Record}
use Rattle.ledger_machine.specs.Records.{AreRecords, with_records}
use Rattle.ledger_machine.specs.Runs.{opening_of}
use Rattle.ledger_machine.specs.Sound.{Sound, IsStoredAt}
use Rattle.ledger_laws.proofs.Soundness.{opening_is_sound}
use Rattle.ledger_laws.proofs.Openings.{stored_all, none_in_empty}

-- a store that has only records is sound
pub records_are_sound : (half : Half) (records : List Record) (interval : ℕ) → AreRecords half records
    → Sound half (opening_of records interval)
records_are_sound half records interval are =
    opening_is_sound half (with_records finite.empty records) interval
    (stored_all (IsStoredAt half) finite.empty records (none_in_empty (IsStoredAt half)) are.own)
