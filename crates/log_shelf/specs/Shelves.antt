-- A shelf of logs, as contracts of other crates name it, and what a stop leaves of it.
use Rattle.std.specs.Prelude.{◌≡◌, ◌++◌, ◌<◌, ◌==◌, ℕ, Bool, true, false, cond, IsTrue, List, [], ◌∷◌, map}
use Rattle.std.specs.Prelude.{◌+◌, is_none, Option, None, Some, Result, IsSomeAnd, OnOk}
use Rattle.std.specs.FinMap as finite
use Rattle.ledger_spec.specs.Bytes.{Bytes, Hash, Nodes}
use Rattle.node_backend.specs.Numbers.{is_among}
use Rattle.node_backend.specs.Doubts.{Pair}
use Rattle.node_backend.specs.declared.back.BackFault.{BackFault}
use Rattle.run_io.specs.Bytes.{CountsFaults}
use Rattle.node_backend.specs.Faults.{OnFault}
use Rattle.log_shelf.specs.Manifests.{AreLive, NamesOnly, FreshFailed}
use Rattle.log_shelf.specs.Rooms.{Files, file_in}
use Rattle.log_shelf.specs.Recovery.{entries_at, live_in, IsKept, IsRecovered}
use Rattle.log_shelf.specs.Stops.{held_of, doubt_of, may_leave_of}
use Rattle.log_shelf.specs.declared.disk.Disk.{Ghosts as Disks}
use Rattle.log_shelf.specs.declared.room.Room.{Ghosts as Rooms}
use Rattle.log_shelf.specs.declared.backend.LogBackend.{LogBackend}
use Rattle.log_shelf.specs.declared.shelf.LogShelf.{LogShelf}

module _ {D : Type 0} {disk : Disks D} where
  -- the numbers of these logs
  abbrev pub numbers_of : List (LogBackend D disk) → List ℕ
  numbers_of logs = map (λ b. b.number) logs

  -- what the backend of a number holds, and its pair in doubt
  abbrev pub held_at : List (LogBackend D disk) → ℕ → Nodes
  held_at [] n = finite.empty
  held_at (b ∷ bs) n = cond (b.number == n) (held_of b) (held_at bs n)

  abbrev pub doubt_at : List (LogBackend D disk) → ℕ → Option Pair
  doubt_at [] n = None
  doubt_at (b ∷ bs) n = cond (b.number == n) (doubt_of b) (doubt_at bs n)

  -- each of the backends has one of the outcomes of a stop as its file
  abbrev pub AreLeft : Files → List (LogBackend D disk) → Type 0
  AreLeft files [] = Unit {0}
  AreLeft files (b ∷ bs) = ((file : List ℕ) × (file_in files b.number ≡ Some file) × may_leave_of b file) × AreLeft files bs

module _ {R D : Type 0} {room : Rooms R D} {disk : Disks D} where
  -- whatever a stop leaves of the manifest, the logs in the shelf's first list are live in it, and no others but those whose discard failed
  -- and the next one to be made; not even that where its disk broke while it was made
  abbrev pub StandsLive : LogShelf R D room disk → Type 0
  StandsLive s = (file : List ℕ) → disk.may_leave s.manifest.disk file → AreLive s.live.items file
      × NamesOnly s.live.items (numbers_of s.spent.items) (is_none s.broken) (s.made + 1) file

  -- what every call leaves of a shelf: its count of faults, and a manifest that a stop leaves with its live logs
  pub record LeavesShelf {X : Type 0} (old new : LogShelf R D room disk) (result : Result X BackFault) : Type 0 where
    pub counts : CountsFaults (OnFault result) old.faults new.faults
    pub stop : StandsLive new

  -- the lists, the last number, the manifest and the count of faults are as before
  pub record KeepsShelf (old new : LogShelf R D room disk) : Type 0 where
    pub live : new.live ≡ old.live
    pub spent : new.spent ≡ old.spent
    pub made : new.made ≡ old.made
    pub manifest : new.manifest ≡ old.manifest
    pub faults : new.faults ≡ old.faults

  -- no disk is left broken by a call that made a log; and one that `failed` says why: the room or the manifest failed, no number is left,
  -- or the new log's disk failed, which is kept as the broken one
  pub record TellsWhy {X : Type 0} (failed : Type 0) (old new : LogShelf R D room disk) (result : Result X BackFault) : Type 0 where
    pub whole : OnOk result (new.broken ≡ None)
    pub why : failed → FreshFailed (room.faults old.room) (room.faults new.room) (disk.faults old.manifest.disk)
        (disk.faults new.manifest.disk) old.made (IsSomeAnd new.broken (λ d. 0 < disk.faults d))

  -- what a stop left of a shelf and of backends that are in its first list: a log that the manifest names and that is neither one of
  -- these nor one whose discard failed has no entry
  pub record WasStopped (s : LogShelf R D room disk) (bs : List (LogBackend D disk)) (files : Files) : Type 0 where
    pub manifest : (file : List ℕ) × (file_in files 0 ≡ Some file) × disk.may_leave s.manifest.disk file
    pub listed : (n : ℕ) → IsTrue (is_among (numbers_of bs) n) → IsTrue (is_among s.live.items n)
    pub logs : AreLeft files bs
    pub others : (n : ℕ) → 0 < n → IsTrue (is_among (live_in files) n) → is_among (numbers_of bs) n ≡ false
        → is_among (numbers_of s.spent.items) n ≡ false
        → entries_at files n ≡ []

  -- over any files that a stop left, each pair of these backends that is a record is recovered
  abbrev pub LosesNoPair : LogShelf R D room disk → Type 0
  LosesNoPair s = (bs : List (LogBackend D disk)) (files : Files) (is_record : List ℕ → Bool) (found : Nodes) → WasStopped s bs files
      → IsKept (numbers_of bs) (numbers_of s.spent.items) (held_at bs) (doubt_at bs) → IsRecovered is_record files found
      → (n : ℕ) (h : Hash) (v : Bytes) → IsTrue (is_among (numbers_of bs) n) → finite.get (held_at bs n) h ≡ Some v
      → is_record (h ++ v) ≡ true
      → finite.get found h ≡ Some v
