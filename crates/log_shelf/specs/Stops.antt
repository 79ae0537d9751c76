-- What a stop may leave of a backend, as contracts of other crates name it, and what calls leave of one.
use Rattle.std.specs.Prelude.{◌≡◌, ◌≢◌, List, ℕ, Option, None, Result}
use Rattle.std.specs.FinMap as map
use Rattle.run_io.specs.Bytes.{Rose}
use Rattle.ledger_spec.specs.Bytes.{Nodes}
use Rattle.node_backend.specs.Doubts.{Pair}
use Rattle.node_backend.specs.declared.back.BackFault.{BackFault}
use Rattle.node_backend.specs.Faults.{LeavesDevice, OnFault}
use Rattle.log_shelf.specs.Backends.{held_in, pair_in_doubt, HoldsOrDoubts}
use Rattle.log_shelf.specs.declared.disk.Disk.{Ghosts}
use Rattle.log_shelf.specs.declared.backend.LogBackend.{LogBackend}

module _ {D : Type 0} {disk : Ghosts D} where
  -- the pairs that a log holds
  abbrev pub held_of : LogBackend D disk → Nodes
  held_of b = held_in b.log.tail (disk.seen b.log.disk)

  -- its pair in doubt
  abbrev pub doubt_of : LogBackend D disk → Option Pair
  doubt_of b = pair_in_doubt b.log.tail b.log.doubt (disk.seen b.log.disk)

  -- the byte strings that a stop may leave of it
  abbrev pub may_leave_of : LogBackend D disk → List ℕ → Type 0
  may_leave_of b file = disk.may_leave b.log.disk file

  -- every one reads as what is held, or as that with the pair in doubt set
  abbrev pub WithstandsStop : LogBackend D disk → Type 0
  WithstandsStop b = (file : List ℕ) → may_leave_of b file → HoldsOrDoubts file (held_of b) (doubt_of b)

  -- a backend of this number that holds nothing, of which nothing is in doubt, and whose counts are zero
  pub record IsNewBackend (n : ℕ) (b : LogBackend D disk) : Type 0 where
    pub number : b.number ≡ n
    pub empty : held_of b ≡ map.empty
    pub sure : doubt_of b ≡ None
    pub uncounted : (b.faults ≡ 0) × (b.gets ≡ 0)

  -- what every call leaves of a backend: its number and its count of faults, which rises only where its disk's rose; and what a stop
  -- leaves of it reads as it tells
  pub record LeavesLog {X : Type 0} (old new : LogBackend D disk) (result : Result X BackFault) : Type 0 where
    pub device : LeavesDevice {D = LogBackend D disk} (λ b. b.number) (λ b. b.faults) (OnFault result) old new
    pub rose : new.faults ≢ old.faults → Rose (disk.faults old.log.disk) (disk.faults new.log.disk)
    pub stop : WithstandsStop new
