-- What is recovered of a store's disks, and that none of its forms is lost.
use Rattle.std.specs.Prelude.{◌≡◌, ℕ, List, Option, Some}
use Rattle.std.specs.FinMap as finite
use Rattle.ledger_spec.specs.Bytes.{Bytes, Hash, Half, Nodes}
use Rattle.ledger_spec.specs.Own.{IsStoredAt}
use Rattle.ledger_machine.specs.declared.commands.Record.{Record}
use Rattle.ledger_machine.specs.Records.{with_records}
use Rattle.log_shelf.specs.Images.{images_of, AreOnShelf}
use Rattle.log_shelf.specs.Shelves.{WasStopped}
use Rattle.log_shelf.specs.Stops.{held_of}
use Rattle.log_shelf.specs.declared.memory.MemDisk.{MemDisk}
use Rattle.log_shelf.specs.declared.disk.Disk.{Ghosts as Disks}
use Rattle.log_shelf.specs.declared.room.Room.{Ghosts as Rooms}
use Rattle.log_shelf.specs.declared.backend.LogBackend.{LogBackend}
use Rattle.log_shelf.specs.declared.shelf.LogShelf.{LogShelf}
use Rattle.log_recovery.specs.Parts.{backends_of}
use Rattle.log_recovery.specs.Records.{AreRecovered}

module _ {R : Type 0} (room : Rooms R MemDisk) (disk : Disks MemDisk) where
  -- The records are what is recovered, by pick, of the disks of a shelf and of its logs, among which are two that hold these maps: the
  -- images of the disks are what a stop may leave of them.
  pub record AreLeft (half : Half) (pick : ℕ) (written archived : Nodes) (records : List Record) : Type 0 where
    pub shelf : LogShelf R MemDisk room disk
    pub archive : LogBackend MemDisk disk
    pub writable : LogBackend MemDisk disk
    pub ready : Option (LogBackend MemDisk disk)
    pub holds : (held_of writable ≡ written) × (held_of archive ≡ archived)
    pub on : AreOnShelf shelf (backends_of archive writable ready)
    pub stopped : WasStopped shelf (backends_of archive writable ready) (images_of pick shelf (backends_of archive writable ready))
    pub recovered : AreRecovered half (images_of pick shelf (backends_of archive writable ready)) records

-- a store that begins with these records holds each form of this map that stands under its own hash
abbrev pub HoldsForms : Half → Nodes → List Record → Type 0
HoldsForms half nodes records = (h : Hash) (form : Bytes) → finite.get nodes h ≡ Some form → IsStoredAt half h form
    → finite.get (with_records finite.empty records) h ≡ Some form
