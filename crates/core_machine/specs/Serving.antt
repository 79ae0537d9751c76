-- What a command may count on, and what it does: at once, or in a section.
use Rattle.std.specs.Prelude.{◌≡◌, ◌<◌, ◌≤◌, ◌+◌, ◌-◌, ◌^◌, ℕ, Bool, IsTrue, IfErr, IfOk, List, [], Option, Result}
use Rattle.ledger_spec.specs.Bytes.{Half, Hash}
use Rattle.ledger_spec.specs.Forms.{Held}
use Rattle.missing_walk.specs.declared.Found.{Found}
use Rattle.ledger_searches.specs.declared.searches.Searches.{Searches}
use Rattle.ledger_searches.specs.Hunting.{IsUnbegun, hunt_of}
use Rattle.missing_walk.specs.Passes.{HasMarkedRoots}
use Rattle.missing_walk.specs.declared.fault.SearchFault.{SearchFault}
use Rattle.missing_walk.specs.declared.fault.SearchFault.TheVariants as faults
use Rattle.ledger_machine.specs.State.{form_in}
use Rattle.ledger_machine.specs.declared.commands.Command.{Command}
use Rattle.ledger_machine.specs.declared.commands.Command.TheVariants as command
use Rattle.ledger_machine.specs.declared.commands.Reply.{Reply}
use Rattle.ledger_machine.specs.declared.commands.Reply.TheVariants as says
use Rattle.ledger_machine.specs.Commands.{IsInRange}
use Rattle.ledger_machine.specs.Sound.{Sound}
use Rattle.ledger_machine.specs.Steps.{Does, Step}
use Rattle.run_io.specs.Bytes.{Rose}
use Rattle.core_machine.specs.Commands.{IsNoCheck}
use Rattle.core_machine.specs.Checking.{AsksNothing, HasFound, IsSliced, IsSought, LeavesSearch, SearchesBy, Shares}
use Rattle.core_machine.specs.Desks.{Desk, IsFiled, Grows, KeepsRest, OnlyReads, Stays}
use Rattle.core_machine.specs.Refusals.{IsRefusal}
use Rattle.core_machine.specs.Telling.{AreTold, AreWantedTold, CopiesBy, CopiesFew, CountsFrom}
use Rattle.core_machine.specs.declared.acquiring.Sought.{Sought}
use Rattle.core_machine.specs.declared.rotating.Part.{Part}
use Rattle.core_machine.specs.declared.rotating.Part.TheVariants as parts

-- What a command may count on: it is in range, one more epoch may end, and where the store tells what it holds the state is sound, and the
-- rotation under way was told each root.
pub record MayServe (half : Half) (tells : Bool) (d : Desk) (c : Command) : Type 0 where
  pub in_range : IsInRange c
  pub sound : IsTrue tells → Sound half d.state
  pub told : IsTrue tells → AreTold d.state
  pub room : d.state.epoch < 2 ^ 64 - 1

-- what one may count on that neither names a session nor sees which are open; a check comes with what was found
pub record MayAct (half : Half) (tells : Bool) (d : Desk) (c : Command) (o : Option Found) : Type 0 where
  pub in_range : IsInRange c
  pub filed : IsFiled half tells d.state
  pub told : IsTrue tells → AreWantedTold d.state
  pub found : HasFound half tells d.state c o

-- What a command leaves that is answered by this reply: behind a refusal all that isn't stored is as it was. It answers `fault` only for
-- this cause.
pub record Leaves (Cause : Type 0) (d : Desk) (c : Command) (reply : Reply) (d' : Desk) : Type 0 where
  pub refused : IsRefusal reply → KeepsRest d.state d'.state
  pub grows : Grows d d'
  pub slices : CountsFrom c reply d.slices d'.slices
  pub fault : reply ≡ says.Fault → Cause

-- What one does in one go, for whose reply these nodes were used: where the store tells what it holds, what its row says. A check asks the
-- backends nothing, and nothing is copied but by a swap.
pub record Acts (half : Half) (tells : Bool) (d : Desk) (a : ℕ) (c : Command) (reply : Reply) (used : List Held) (d' : Desk) : Type 0 where
  pub does : IsTrue tells → Does half d.state a c reply used d'.state
  pub leaves : Leaves (Rose d.faults d'.faults) d c reply d'
  pub copies : IsTrue tells → CopiesBy c d d'
  pub asks : AsksNothing c d.gets d'.gets

-- what a peer's offer does, whoever's command brings it: nothing is listed, told or copied
pub record TakesOffer (half : Half) (tells : Bool) (d : Desk) (c : Command) (reply : Reply) (d' : Desk) : Type 0 where
  pub does : IsTrue tells → (a : ℕ) → Does half d.state a c reply [] d'.state
  pub refused : IsRefusal reply → KeepsRest d.state d'.state
  pub stays : Stays tells d d'
  pub told : d'.state.shaded ≡ d.state.shaded
  pub fault : reply ≡ says.Fault → Rose d.faults d'.faults

-- What a command of an actor does that is answered by this reply, for which these nodes were used: where the store tells what it holds, a
-- step of the machine.
pub record Serves (half : Half) (tells : Bool) (Cause : Type 0) (d : Desk) (a : ℕ) (c : Command) (reply : Reply) (used : List Held)
    (d' : Desk) : Type 0 where
  pub step : IsTrue tells → Step half d.state a c reply used d'.state
  pub told : IsTrue tells → AreTold d'.state
  pub leaves : Leaves Cause d c reply d'

-- the same in one go
pub record Steps (half : Half) (tells : Bool) (d : Desk) (a : ℕ) (c : Command) (reply : Reply) (used : List Held) (d' : Desk) : Type 0 where
  pub serves : Serves half tells (Rose d.faults d'.faults) d a c reply used d'
  pub copies : IsTrue tells → CopiesBy c d d'
  pub asks : AsksNothing c d.gets d'.gets

-- a section that answers the command, with what it leaves of what searches share, and what it asks the store and copies
pub record Answers (half : Half) (tells : Bool) (Cause : Type 0) (d : Desk) (a : ℕ) (c : Command) (part : Part) (x : Searches)
    (reply : Reply) (used : List Held) (x' : Searches) (d' : Desk) : Type 0 where
  pub serves : Serves half tells Cause d a c reply used d'
  pub shares : Shares half tells d.state a c part x d.gets x' d'.gets
  pub search : IsTrue tells → SearchesBy half d.state c reply (hunt_of x.hunts.items a) x.marks d.gets x'.marks d'.gets
  pub few : IsTrue tells → part ≡ parts.Slice → CopiesFew c d d'
  pub idle : IsNoCheck c → x' ≡ x

-- one that leaves something of it for another section: the state is as it was, but that a store that doesn't tell what it holds may hold
-- anything
pub record LeavesMore (half : Half) (tells : Bool) (d : Desk) (a : ℕ) (c : Command) (part : Part) (x x' : Searches) (d' : Desk)
    : Type 0 where
  pub more : IsSliced half tells a c part d x d' x'
  pub shares : Shares half tells d.state a c part x d.gets x' d'.gets
  pub told : IsTrue tells → AreTold d'.state
  pub grows : Grows d d'
  pub few : IsTrue tells → part ≡ parts.Slice → CopiesFew c d d'
  pub still : KeepsRest d.state d'.state
  pub same : IsTrue tells → d'.state ≡ d.state

-- What is searched of a ledger before a check of it is answered. Where the roots that its stored header names were marked, and no search of
-- it was begun, the backends are asked at most twice.
pub record Seeks (half : Half) (tells : Bool) (d : Desk) (a : ℕ) (t : Hash) (part : Part) (x : Searches) (result : Result Sought
    SearchFault)
    (x' : Searches) (d' : Desk) : Type 0 where
  pub found : IfOk result (IsSought half tells d'.state t part)
  pub leaves : IsTrue tells → IfOk result (LeavesSearch half d.state t (hunt_of x.hunts.items a) x.marks (hunt_of x'.hunts.items a)
      x'.marks)
  pub first : IsTrue tells → IsUnbegun (hunt_of x.hunts.items a) t → HasMarkedRoots (form_in d.state) t x.marks → d'.gets ≤ d.gets + 2
  pub shares : Shares half tells d.state a (command.Check t) part x d.gets x' d'.gets
  pub reads : OnlyReads tells d d'
  pub fault : IfErr result (λ e. e ≡ faults.Fault → Rose d.faults d'.faults)
