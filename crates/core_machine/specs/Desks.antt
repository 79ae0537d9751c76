-- What the commands act on: the state over a store, the store's count of faults, and where its forms lie.
use Rattle.std.specs.Prelude.{◌≡◌, ◌≤◌, ◌&&◌, ◌==◌, if◌then◌else◌, ℕ, suc, Bool, IsTrue, List, [], Result, IfErr, OnErr, length, is_some}
use Rattle.std.specs.FinMap as finite
use Rattle.half_hash.specs.declared.Memory.{Memory}
use Rattle.ledger_spec.specs.Bytes.{Hash, Half, Lookup, Nodes}
use Rattle.ledger_spec.specs.Maps.{ForHash, ForActor}
use Rattle.ledger_spec.specs.Acquiring.{Acquiring}
use Rattle.ledger_spec.specs.Retaining.{Retention}
use Rattle.ledger_spec.specs.Own.{AreStored}
use Rattle.ledger_machine.specs.State.{State, form_in}
use Rattle.run_io.specs.Bytes.{Rose}
use Rattle.node_backend.specs.declared.back.BackFault.{BackFault}
use Rattle.node_backend.specs.declared.back.BackFault.TheVariants as back
use Rattle.rotating_store.specs.Stores.{Store, nodes_of, born_of}
use Rattle.online_rotate.specs.Rotators.{Turning}

-- a state, how often the devices of its store failed and how often they were asked, how many slices of the rotation under way left
-- something to copy, the hashes that its walk has still to take, and what the writable backend and the archive hold
pub record Desk : Type 0 where
  pub state : State
  pub faults : ℕ
  pub gets : ℕ
  pub slices : ℕ
  pub grey : List Hash
  pub written : Nodes
  pub archived : Nodes

-- What stays where nothing is copied: the epoch, what the archive holds, and which hashes both backends hold. A hash that was stored, and
-- that the writable backend hadn't, the archive had, so if the writable one has it now, both do.
abbrev pub backs : Desk → Nodes × (Hash → Bool) × ℕ
backs d = (d.archived, (λ h. is_some (finite.get d.written h) && is_some (finite.get d.archived h)), d.state.epoch)

-- what the backend holds that was the writable one: behind a swap, which ends an epoch, that is the archive
abbrev pub behind : Desk → Desk → Lookup
behind d d' = if d'.state.epoch == d.state.epoch then finite.get d'.written else finite.get d'.archived

-- the state with what a store holds and was born in its epoch
abbrev pub over : Store → State → State
over st s = record s { nodes = nodes_of st; born = born_of st; epoch = st.epoch }

-- the state over a store, with these acquisitions and views, by a book and a rotator; no session is open
abbrev pub state_of : Store → ForHash Acquiring → ForActor Hash → Retention → Turning → State
state_of st wanted views b r = record {
  nodes = nodes_of st;
  born = born_of st;
  epoch = st.epoch;
  listed = b.listed;
  wanted = wanted;
  views = views;
  sessions = [];
  floor = b.floor;
  last = b.last;
  interval = b.interval;
  turning = b.turning;
  shaded = r.shaded;
}

-- the same with the rest of what contracts see
abbrev pub desk_of : Store → ForHash Acquiring → ForActor Hash → Retention → Turning → Desk
desk_of st wanted views b r = record {
  state = state_of st wanted views b r;
  faults = st.faults;
  gets = st.gets;
  slices = r.slices;
  grey = r.walk.grey;
  written = st.writable;
  archived = st.archive;
}

-- where the store tells what it holds, all of it are forms under their own hashes
abbrev pub IsFiled : Half → Bool → State → Type 0
IsFiled half tells s = IsTrue tells → AreStored half (form_in s)

-- a section that lists and copies nothing: the store's count of faults never falls, and the epoch stays
pub record Stays (tells : Bool) (d d' : Desk) : Type 0 where
  pub later : d.faults ≤ d'.faults
  pub listed : d'.state.listed ≡ d.state.listed
  pub epoch : d'.state.epoch ≡ d.state.epoch
  pub slices : d'.slices ≡ d.slices
  pub copies : IsTrue tells → backs d' ≡ backs d

-- one that doesn't ask the store, nor a rotation for a slice
pub record AsksNoStore (tells : Bool) (d d' : Desk) : Type 0 where
  pub faults : d'.faults ≡ d.faults
  pub gets : d'.gets ≡ d.gets
  pub epoch : d'.state.epoch ≡ d.state.epoch
  pub slices : d'.slices ≡ d.slices
  pub copies : IsTrue tells → backs d' ≡ backs d

-- and one that lists a ledger at most, and ends an epoch at most
pub record Grows (d d' : Desk) : Type 0 where
  pub later : d.faults ≤ d'.faults
  pub few : length d'.state.listed ≤ suc (length d.state.listed)
  pub ages : d'.state.epoch ≤ suc d.state.epoch

-- but for what is stored, and for what a rotation was told, the state is as before
abbrev pub KeepsRest : State → State → Type 0
KeepsRest s s' = s' ≡ record s { nodes = s'.nodes; born = s'.born; shaded = s'.shaded }

-- one that keeps the state, but that a store that doesn't tell what it holds may hold anything
pub record KeepsState (tells : Bool) (d d' : Desk) : Type 0 where
  pub same : IsTrue tells → d'.state ≡ d.state
  pub rest : KeepsRest d.state d'.state
  pub later : d.faults ≤ d'.faults

-- one that only reads: the state is as before, but that a store that doesn't tell what it holds may hold anything
pub record OnlyReads (told : Bool) (d d' : Desk) : Type 0 where
  pub state : IsTrue told → d'.state ≡ d.state
  pub copies : IsTrue told → backs d' ≡ backs d
  pub slices : d'.slices ≡ d.slices
  pub tables : d'.state ≡ record d.state { nodes = d'.state.nodes; born = d'.state.born }
  pub later : d.faults ≤ d'.faults

-- a call that only memory refuses: nothing is listed, told or copied, and where it is refused all is as before
pub record WantsMemory {X : Type 0} (tells : Bool) (d : Desk) (result : Result X Memory) (d' : Desk) : Type 0 where
  pub err : OnErr result (d' ≡ d)
  pub told : d'.state.shaded ≡ d.state.shaded
  pub stays : Stays tells d d'

-- a call that looks something up in the store: nothing is listed, told or copied, and where it is refused the state is as before
pub record LooksUp {X : Type 0} (tells : Bool) (d : Desk) (result : Result X BackFault) (d' : Desk) : Type 0 where
  pub err : IsTrue tells → OnErr result (d'.state ≡ d.state)
  pub kept : OnErr result (KeepsRest d.state d'.state)
  pub told : d'.state.shaded ≡ d.state.shaded
  pub stays : Stays tells d d'
  pub fault : IfErr result (λ e. e ≡ back.Fault → Rose d.faults d'.faults)
