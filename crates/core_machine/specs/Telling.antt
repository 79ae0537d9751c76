-- What the machine keeps of a rotation, and what its commands tell one.
use Rattle.std.specs.Prelude.{◌≡◌, ◌≢◌, ◌⊎◌, ◌↔◌, ◌+◌, ◌≤◌, ◌<◌, ◌++◌, Bool, false, IsTrue, IsSome, IsSomeAnd, IfSome, List, [], None}
use Rattle.std.specs.Prelude.{Some, Result, Ok, Err, IfErr, IfOk, OnErr, ℕ}
use Rattle.std.specs.List.{Contains}
use Rattle.std.specs.Map.{keys_of, values_of}
use Rattle.std.specs.FinSet as set
use Rattle.half_hash.specs.declared.Memory.{Memory}
use Rattle.ledger_spec.specs.Bytes.{Bytes, Hash, Half}
use Rattle.ledger_spec.specs.Maps.{hash_cmp, get_in}
use Rattle.ledger_spec.specs.Retaining.{Retention, floor_behind}
use Rattle.rotating_store.specs.Stores.{Store}
use Rattle.online_rotate.specs.Rotators.{Turning, no_walk, InStep, slices_after}
use Rattle.online_rotate.specs.Copying.{IsFit, IsWalking}
use Rattle.copy_walk.specs.declared.walk.Left.{Left}
use Rattle.copy_walk.specs.declared.walk.Left.TheVariants as left
use Rattle.run_io.specs.Bytes.{Rose}
use Rattle.online_rotate.specs.declared.rotator.Begun.{Begun}
use Rattle.online_rotate.specs.declared.rotator.Begun.TheVariants as begun
use Rattle.node_backend.specs.declared.back.BackFault.{BackFault}
use Rattle.node_backend.specs.declared.back.BackFault.TheVariants as back
use Rattle.rotating_store.specs.declared.outcome.StoreFault.{StoreFault}
use Rattle.rotating_store.specs.declared.outcome.StoreFault.TheVariants as faults
use Rattle.ledger_machine.specs.declared.commands.Command.{Command}
use Rattle.ledger_machine.specs.declared.commands.Command.TheVariants as command
use Rattle.ledger_machine.specs.declared.commands.Nature.{Nature}
use Rattle.ledger_machine.specs.declared.commands.Nature.TheVariants as natures
use Rattle.ledger_machine.specs.Commands.{nature_of}
use Rattle.ledger_machine.specs.declared.commands.BeginReply.{BeginReply}
use Rattle.ledger_machine.specs.declared.commands.BeginReply.TheVariants as begins
use Rattle.ledger_machine.specs.declared.commands.SwapReply.{SwapReply}
use Rattle.ledger_machine.specs.declared.commands.SwapReply.TheVariants as swaps
use Rattle.ledger_machine.specs.declared.commands.Reply.{Reply}
use Rattle.ledger_machine.specs.declared.commands.Reply.TheVariants as says
use Rattle.core_machine.specs.declared.rotating.Part.{Part}
use Rattle.core_machine.specs.declared.rotating.Part.TheVariants as parts
use Rattle.copy_walk.specs.Counts.{CopiesAtMost}
use Rattle.std.specs.FinMap as finite
use Rattle.core_machine.specs.Desks.{Desk, Grows, KeepsRest, KeepsState, backs, behind}
use Rattle.ledger_machine.specs.State.{State, form_in, Kept}
use Rattle.ledger_machine.specs.Rotation.{AreShaded, Tells, WhileTurning, after_begin, begin_reply}
use Rattle.ledger_machine.specs.Steps.{IsAfter, own_hashes}

-- Nothing is pinned in the book: what views and sessions hold is told as a rotation begins. The book has a rotation under way where the
-- rotator has, and outside of one nothing was told and nothing is walked. The walk copies what was told reaches, and what both backends
-- hold is reached from that.
pub record KeepsTurning (tells : Bool) (b : Retention) (r : Turning) (st : Store) : Type 0 where
  pub pins : b.pins ≡ []
  pub step : InStep r b
  pub idle : r.turning ≡ false → r.shaded ≡ []
  pub still : r.turning ≡ false → r.walk ≡ no_walk
  pub walks : IsTrue tells → IsWalking r.shaded r.walk st
  pub fit : IsTrue tells → IsFit r.shaded st

-- while a rotation is under way each root was told to it
abbrev pub AreTold : State → Type 0
AreTold s = IfSome s.turning (λ v. AreShaded s)

-- while a rotation is under way each open target was told to it
abbrev pub AreWantedTold : State → Type 0
AreWantedTold s = IfSome s.turning (λ v. (t : Hash) → Contains (keys_of s.wanted) t → Contains s.shaded t)

-- what was told stays told, and nothing else is told but these
pub record Hears (told : List Hash) (more : List Hash) (told' : List Hash) : Type 0 where
  pub stays : (h : Hash) → Contains told h → Contains told' h
  pub only : (h : Hash) → Contains told' h → Contains told h ⊎ Contains more h

-- what a step carries of a rotation that is under way before and after it
abbrev pub Carried : Half → State → ℕ → Command → Reply → State → Type 0
Carried half s a c reply s' = WhileTurning s.turning s'.turning (AreShaded s' × Tells s s' (own_hashes half s a c reply))

-- the machine's names for what a begin and the end of a rotation come to
abbrev pub begin_told : Begun → BeginReply
begin_told (begun.Begun seq floor) = begins.Begun seq floor
begin_told begun.NotDue = begins.NotDue
begin_told begun.Busy = begins.Busy

abbrev pub unended : StoreFault → BackFault
unended faults.Fault = back.Fault
unended _ = back.Memory

abbrev pub swap_told : Result ℕ StoreFault → Result SwapReply BackFault
swap_told (Ok epoch) = Ok (swaps.Swapped epoch)
swap_told (Err fault) = Err (unended fault)

abbrev pub slice_told : Result Left StoreFault → Result Left BackFault
slice_told (Ok l) = Ok l
slice_told (Err fault) = Err (unended fault)

-- how many slices of a rotation a swap does before it copies what is left in one section
abbrev pub most_slices : ℕ
most_slices = 64

-- how many hashes of its walk a slice takes
abbrev pub most_copied : ℕ
most_copied = 256

-- nothing is copied, also where a swap is refused, but by a swap whose walk has something to take still
abbrev pub CopiesAs : Nature → Desk → Desk → Type 0
CopiesAs natures.Swap d d' = d.grey ≡ [] → behind d d' ≡ finite.get d.written
CopiesAs natures.Table d d' = backs d' ≡ backs d
CopiesAs natures.Check d d' = backs d' ≡ backs d
CopiesAs natures.Read d d' = backs d' ≡ backs d
CopiesAs natures.View d d' = backs d' ≡ backs d
CopiesAs natures.Unview d d' = backs d' ≡ backs d
CopiesAs natures.Session d d' = backs d' ≡ backs d
CopiesAs natures.Begin d d' = backs d' ≡ backs d

abbrev pub CopiesBy : Command → Desk → Desk → Type 0
CopiesBy c d d' = CopiesAs (nature_of c) d d'

-- at most 256 hashes are copied, but by a swap whose rotation has done its slices
abbrev pub CopiesFew : Command → Desk → Desk → Type 0
CopiesFew c d d' = ((c ≡ command.Swap) × (most_slices ≤ d.slices))
    ⊎ CopiesAtMost most_copied (finite.get d.state.nodes) (finite.get d.written) (behind d d')

-- how many slices of the rotation under way left something, behind the answer to a command: none where one begins, and else as many as
-- before
abbrev pub CountsAs : Nature → Reply → ℕ → ℕ → Type 0
CountsAs natures.Begin (says.Begin (begins.Begun seq floor)) n n' = n' ≡ 0
CountsAs natures.Begin reply n n' = n' ≡ n
CountsAs natures.Swap reply n n' = n' ≡ n
CountsAs natures.Table reply n n' = n' ≡ n
CountsAs natures.Check reply n n' = n' ≡ n
CountsAs natures.Read reply n n' = n' ≡ n
CountsAs natures.View reply n n' = n' ≡ n
CountsAs natures.Unview reply n n' = n' ≡ n
CountsAs natures.Session reply n n' = n' ≡ n

abbrev pub CountsFrom : Command → Reply → ℕ → ℕ → Type 0
CountsFrom c reply n n' = CountsAs (nature_of c) reply n n'

-- a slice is counted where it left something
abbrev pub CountsSlice : Result Left BackFault → Desk → Desk → Type 0
CountsSlice (Ok l) d d' = d'.slices ≡ slices_after l d.slices
CountsSlice (Err _) d d' = d'.slices ≡ d.slices

-- a slice of the rotation under way of at most n hashes: only where forms lie changes
pub record SlicesOn (tells : Bool) (n : ℕ) (d : Desk) (result : Result Left BackFault) (d' : Desk) : Type 0 where
  pub keeps : KeepsState tells d d'
  pub counts : CountsSlice result d d'
  pub few : IsTrue tells → CopiesAtMost n (finite.get d.state.nodes) (finite.get d.written) (finite.get d'.written)
  pub done : result ≡ Ok left.Done → d'.grey ≡ []
  pub fault : IfErr result (λ e. e ≡ back.Fault → Rose d.faults d'.faults)

-- a slice of a swap that left something: it is counted, and there were fewer than the most of them
pub record IsSlice (c : Command) (part : Part) (d d' : Desk) : Type 0 where
  pub swap : c ≡ command.Swap
  pub cut : part ≡ parts.Slice
  pub few : d.slices < most_slices
  pub counted : d'.slices ≡ d.slices + 1

-- What a section of a command that is no check begins with: a slice, of a swap that is done in slices whose rotation may do one more, or
-- nothing.
pub record SlicesFirst (tells : Bool) (c : Command) (part : Part) (d : Desk) (result : Result Left BackFault) (d' : Desk) : Type 0 where
  pub keeps : KeepsState tells d d'
  pub more : result ≡ Ok left.More → IsSlice c part d d'
  pub slices : (result ≡ Ok left.More → ⊥) → d'.slices ≡ d.slices
  pub few : IsTrue tells → CopiesAtMost most_copied (finite.get d.state.nodes) (finite.get d.written) (finite.get d'.written)
  pub none : (c ≡ command.Swap → ⊥) → d' ≡ d
  pub done : result ≡ Ok left.Done → c ≡ command.Swap → part ≡ parts.Slice → (d'.grey ≡ []) ⊎ (most_slices ≤ d.slices)
  pub err : IfErr result (λ e. (c ≡ command.Swap) × (e ≡ back.Fault → Rose d.faults d'.faults))

-- a rotation that begins was told the ledgers that stay listed, those of views, the open targets and these, and nothing else
abbrev pub BeginsBy : State → List Hash → BeginReply → State → Type 0
BeginsBy s more (begins.Begun v floor) s' = (h : Hash) → Contains s'.shaded h
    ↔ (IsSomeAnd (get_in hash_cmp s.listed h) (λ seq. floor_behind s.last ≤ seq)
    ⊎ Contains (values_of s.views ++ keys_of s.wanted ++ more) h)
BeginsBy s more r s' = s'.shaded ≡ s.shaded

-- The begin of the rotation that is due, which is told of these beside. Nothing is listed anew or copied, and only memory refuses it: then
-- all is as it was.
pub record BeginsTurn (tells : Bool) (more : List Hash) (d : Desk) (result : Result BeginReply Memory) (d' : Desk) : Type 0 where
  pub reply : IfOk result (λ r. r ≡ begin_reply d.state)
  pub after : IfOk result (λ r. IsAfter (after_begin d.state r) d'.state)
  pub told : IfOk result (λ r. BeginsBy d.state more r d'.state)
  pub err : OnErr result (d' ≡ d)
  pub grows : Grows d d'
  pub slices : IfOk result (λ r. CountsFrom command.Begin (says.Begin r) d.slices d'.slices)
  pub copies : IsTrue tells → backs d' ≡ backs d

-- a swap, by what the rotation was told: all that this reaches stays, and nothing else but what was born in the epoch that ended
pub record SwapsTold (s s' : State) : Type 0 where
  pub fewer : (h : Hash) (form : Bytes) → form_in s' h ≡ Some form → form_in s h ≡ Some form
  pub kept : (h : Hash) → Kept s h → form_in s' h ≡ form_in s h
  pub only : (h : Hash) → form_in s' h ≢ None → Kept s h ⊎ IsTrue (set.contains s.born h)
  pub rest : s' ≡ record s { nodes = s'.nodes; born = set.empty; epoch = s.epoch + 1; last = s.turning; turning = None; shaded = [] }

-- what a swap answers, and what it leaves
abbrev pub AfterSwap : State → SwapReply → State → Type 0
AfterSwap s swaps.Idle s' = (s.turning ≡ None) × (s' ≡ s)
AfterSwap s (swaps.Swapped epoch) s' = IsSome s.turning × (epoch ≡ s.epoch + 1) × SwapsTold s s'

-- The end of the rotation under way, where there is one. Nothing is copied where nothing is grey; where it is refused the rotation goes on.
pub record Finishes (tells : Bool) (d : Desk) (result : Result SwapReply BackFault) (d' : Desk) : Type 0 where
  pub swaps : IsTrue tells → IfOk result (λ r. AfterSwap d.state r d'.state)
  pub err : IsTrue tells → OnErr result (d'.state ≡ d.state)
  pub kept : OnErr result (KeepsRest d.state d'.state)
  pub grows : Grows d d'
  pub slices : d'.slices ≡ d.slices
  pub still : IsTrue tells → d.grey ≡ [] → behind d d' ≡ finite.get d.written
  pub fault : IfErr result (λ e. e ≡ back.Fault → Rose d.faults d'.faults)
