-- The parts of a store over a shelf of logs, and what a stop leaves of them.
use Rattle.std.specs.Prelude.{◌≡◌, List, ◌∷◌, Option, Some}
use Rattle.std.specs.Option.{option_to_list}
use Rattle.std.specs.FinMap as finite
use Rattle.ledger_spec.specs.Bytes.{Bytes, Hash, Half, Nodes}
use Rattle.ledger_spec.specs.Own.{IsStoredAt}
use Rattle.log_shelf.specs.Rooms.{Files}
use Rattle.log_shelf.specs.Recovery.{IsRecovered}
use Rattle.log_shelf.specs.Shelves.{WasStopped}
use Rattle.log_shelf.specs.declared.disk.Disk.{Ghosts as Disks}
use Rattle.log_shelf.specs.declared.room.Room.{Ghosts as Rooms}
use Rattle.log_shelf.specs.declared.backend.LogBackend.{LogBackend}
use Rattle.log_shelf.specs.declared.shelf.LogShelf.{LogShelf}
use Rattle.log_recovery.specs.Records.{is_record}

module _ {D : Type 0} {disk : Disks D} where
  -- a store's backends, from the archive on
  abbrev pub backends_of : LogBackend D disk → LogBackend D disk → Option (LogBackend D disk) → List (LogBackend D disk)
  backends_of archive writable ready = archive ∷ writable ∷ option_to_list ready

module _ {R D : Type 0} {room : Rooms R D} {disk : Disks D} where
  -- over any files that a stop left of the shelf and the backends, each form of this map that stands under its own hash is recovered
  abbrev pub LosesNoForm : Half → LogShelf R D room disk → List (LogBackend D disk) → Nodes → Type 0
  LosesNoForm half s bs nodes = (files : Files) (found : Nodes) → WasStopped s bs files → IsRecovered (is_record half) files found
      → (h : Hash) (form : Bytes) → finite.get nodes h ≡ Some form → IsStoredAt half h form → finite.get found h ≡ Some form
