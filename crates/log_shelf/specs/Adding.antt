-- A log without entries, and what calls that add an entry leave of a log.
use Rattle.std.specs.Prelude.{◌≡◌, ℕ, ◌+◌, true, false, List, [], ◌∷◌, ◌++◌, length, take, Result, OnOk, OnErr}
use Rattle.node_backend.specs.declared.back.BackFault.{BackFault}
use Rattle.log_shelf.specs.Logs.{behind, told_entries, doubted, MayDoubtEntry}
use Rattle.log_shelf.specs.declared.disk.Disk.{Ghosts}
use Rattle.log_shelf.specs.declared.log.Log.{Log}

module _ {D : Type 0} {disk : Ghosts D} where
  -- no entry is told and none is in doubt, on the disk of this number
  pub record IsEmptyLog (number : ℕ) (log : Log D disk) : Type 0 where
    pub told : told_entries log.tail (disk.seen log.disk) ≡ []
    pub sure : log.doubt ≡ false
    pub numbered : disk.number log.disk ≡ number

  -- the entry comes to those that are told, and the gate behind it is closed; where that failed the gate stands where it stood, and the
  -- entry may be in doubt
  pub record AddsEntry {X : Type 0} (entry : List ℕ) (old new : Log D disk) (result : Result X BackFault) : Type 0 where
    pub told : OnOk result (told_entries new.tail (disk.seen new.disk) ≡ told_entries old.tail (disk.seen old.disk) ++ entry ∷ [])
    pub ok : OnOk result ((new.doubt ≡ false) × (new.tail ≡ old.tail + 9 + length entry))
    pub front : take old.tail (disk.seen new.disk) ≡ take old.tail (disk.seen old.disk)
    pub err : OnErr result ((new.tail ≡ old.tail)
        × MayDoubtEntry (doubted old.tail old.doubt (disk.seen old.disk)) entry (doubted new.tail new.doubt (disk.seen new.disk)))

  -- the entry behind the gate, of so many bytes, comes to those that are told; where that failed the gate is in doubt
  pub record OpensGate {X : Type 0} (len : ℕ) (old new : Log D disk) (result : Result X BackFault) : Type 0 where
    pub told : OnOk result (told_entries new.tail (disk.seen new.disk)
        ≡ told_entries old.tail (disk.seen old.disk) ++ behind old.tail (disk.seen old.disk) ∷ [])
    pub ok : OnOk result ((new.doubt ≡ false) × (new.tail ≡ old.tail + 9 + len))
    pub err : OnErr result ((new.doubt ≡ true) × (new.tail ≡ old.tail))
