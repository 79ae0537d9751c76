-- The images of disks in memory: of what a stop may leave, three by which a test picks.
use Rattle.std.specs.Prelude.{ℕ, ◌==◌, ◌<◌, if◌then◌else◌, IsTrue, List, [], ◌∷◌, length, replicate}
use Rattle.std.specs.FinMap as finite
use Rattle.node_backend.specs.Numbers.{is_among}
use Rattle.log_shelf.specs.Disks.{overwritten}
use Rattle.log_shelf.specs.MemDisks.{applied}
use Rattle.log_shelf.specs.Rooms.{Files, files_of}
use Rattle.log_shelf.specs.Shelves.{numbers_of}
use Rattle.log_shelf.specs.declared.span.Span.{Span}
use Rattle.log_shelf.specs.declared.memory.MemDisk.{MemDisk}
use Rattle.log_shelf.specs.declared.mem_room.MemRoom.{MemRoom}
use Rattle.log_shelf.specs.declared.disk.Disk.{Ghosts as Disks}
use Rattle.log_shelf.specs.declared.room.Room.{Ghosts as Rooms}
use Rattle.log_shelf.specs.declared.backend.LogBackend.{LogBackend}
use Rattle.log_shelf.specs.declared.shelf.LogShelf.{LogShelf}

-- a file whose ranges that were written hold FF
abbrev pub filled : List Span → List ℕ → List ℕ
filled [] file = file
filled (span ∷ spans) file = filled spans (overwritten file span.at (replicate (length span.bytes.items) 255))

-- a disk without the writes since its last sync (0), with all of them (1), or with their ranges filled by FF
abbrev pub image_of : ℕ → MemDisk → List ℕ
image_of pick disk =
    if pick == 0 then disk.synced.items
    else if pick == 1 then applied disk.pending.items disk.synced.items else filled disk.pending.items disk.synced.items

-- the files that a room tells
abbrev pub files_in : MemRoom → Files
files_in room = files_of room.images.entries

-- each number is greater than the one before it
abbrev pub ClimbsFrom : ℕ → List ℕ → Type 0
ClimbsFrom low [] = Unit {0}
ClimbsFrom low (n ∷ numbers) = (low < n) × ClimbsFrom n numbers

abbrev pub Climbs : List ℕ → Type 0
Climbs [] = Unit {0}
Climbs (n ∷ numbers) = ClimbsFrom n numbers

module _ {disk : Disks MemDisk} where
  -- with the images of these logs
  abbrev pub with_images : ℕ → Files → List (LogBackend MemDisk disk) → Files
  with_images pick files [] = files
  with_images pick files (b ∷ bs) = with_images pick (finite.insert files b.number (image_of pick b.log.disk)) bs

module _ {R : Type 0} {room : Rooms R MemDisk} {disk : Disks MemDisk} where
  -- the images of a shelf's disks, the broken one left out, and of these backends' disks
  abbrev pub images_of : ℕ → LogShelf R MemDisk room disk → List (LogBackend MemDisk disk) → Files
  images_of pick s bs =
      finite.insert (with_images pick (with_images pick finite.empty s.spent.items) bs) 0 (image_of pick s.manifest.disk)

module _ {R D : Type 0} {room : Rooms R D} {disk : Disks D} where
  -- the backends are logs of the shelf's first list, their numbers rising
  pub record AreOnShelf (s : LogShelf R D room disk) (bs : List (LogBackend D disk)) : Type 0 where
    pub listed : (n : ℕ) → IsTrue (is_among (numbers_of bs) n) → IsTrue (is_among s.live.items n)
    pub rise : Climbs (numbers_of bs)
