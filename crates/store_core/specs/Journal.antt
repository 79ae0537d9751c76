-- What contracts see of a core, and what it keeps.
use Rattle.std.specs.Prelude.{◌≡◌, ◌⊎◌, ◌==◌, if◌then◌else◌, ◌^◌, ℕ, ◌+◌, ◌-◌, ◌<◌, ◌≤◌, ◌++◌, ◌∷◌, [], List, Bool, IsTrue}
use Rattle.std.specs.Prelude.{Option, Some, None, length, take, slice_index, slice_index_or, slice_set}
use Rattle.std.specs.List.{All, Contains}
use Rattle.std.specs.FinMap as finite
use Rattle.copy_walk.specs.Counts.{CopiesAtMost}
use Rattle.ledger_spec.specs.Bytes.{Hash, Half, Lookup, Nodes}
use Rattle.ledger_machine.specs.declared.commands.Line.{Line}
use Rattle.ledger_machine.specs.declared.commands.Command.{Command}
use Rattle.ledger_machine.specs.declared.commands.Command.TheVariants as command
use Rattle.ledger_machine.specs.declared.commands.Record.{Record}
use Rattle.ledger_machine.specs.Records.{AreRecords}
use Rattle.ledger_machine.specs.declared.journal.Entry.{Entry}
use Rattle.ledger_machine.specs.declared.commands.Reply.{Reply}
use Rattle.ledger_machine.specs.declared.commands.Reply.TheVariants as says
use Rattle.ledger_machine.specs.Scripts.{numbers_of}
use Rattle.ledger_machine.specs.State.{State, form_in, retained}
use Rattle.ledger_machine.specs.Sound.{Sound}
use Rattle.ledger_machine.specs.Limits.{actors}
use Rattle.ledger_machine.specs.Runs.{Answers, IsRunOf, opening_of, Projects, answered_by, Waits, next_line}
use Rattle.ledger_machine.specs.Receipts.{AllStay}
use Rattle.ledger_machine.specs.Exact.{AreEveryMaps}
use Rattle.ledger_machine.specs.Complete.{IsAllStored, AreExact}
use Rattle.ledger_machine.specs.Collisions.{brought_by, ShowsIn}
use Rattle.ledger_machine.specs.Swaps.{AllSwapsKeep}
use Rattle.ledger_machine.specs.Throughout.{AreInOrder}
use Rattle.run_io.specs.Bytes.{Rose}
use Rattle.script_form.specs.Servable.{AreServable}
use Rattle.full_below.specs.declared.marks.Marks.{Marks}
use Rattle.ledger_searches.specs.declared.hunt.Hunt.{Hunt}
use Rattle.ledger_searches.specs.Hunting.{hunt_of}
use Rattle.core_machine.specs.Checking.{AsksFew, LeavesMarks, SearchesBy, SlicesSearch}
use Rattle.core_machine.specs.Desks.{KeepsRest}
use Rattle.store_core.specs.Failing.{without}
use Rattle.store_core.specs.Halls.{AreViews}
use Rattle.store_core.specs.declared.jobs.View.{View}
use Rattle.ledger_spec.specs.Maps.{ForActor}
use Rattle.core_machine.specs.Refusals.{IsRefusal}
use Rattle.core_machine.specs.Telling.{AreTold, CountsFrom, most_slices, most_copied}

-- what contracts see of a core: its script's records and lines, the interval, the store's count of faults at opening and now and its count
-- of gets, how many slices of the rotation under way left something to copy, what the writable backend and the archive hold, the marks of
-- what was found whole, the search that each actor's check has begun, how many calls for a stored record failed, the actors whose fetch
-- failed since their last entry, the journal, the state, and the open views with the headers of their ledgers
pub record CoreView : Type 0 where
  pub records : List Record
  pub lines : List Line
  pub interval : ℕ
  pub opened : ℕ
  pub faults : ℕ
  pub gets : ℕ
  pub slices : ℕ
  pub written : Nodes
  pub archived : Nodes
  pub marks : Marks
  pub hunts : List (Option Hunt)
  pub missed : ℕ
  pub failed : List ℕ
  pub journal : List Entry
  pub state : State
  pub views : ForActor View

-- a core of this script that has answered nothing and missed nothing
pub record IsNew (script : List Record) (asked : List Line) (every : ℕ) (c : CoreView) : Type 0 where
  pub records : c.records ≡ script
  pub lines : c.lines ≡ asked
  pub interval : c.interval ≡ every
  pub journal : c.journal ≡ []
  pub missed : c.missed ≡ 0
  pub failed : c.failed ≡ []
  pub views : c.views ≡ []
  pub slices : c.slices ≡ 0
  pub marks : c.marks.entries.entries ≡ []
  pub hunts : (a : ℕ) → hunt_of c.hunts a ≡ None

-- how many entries answered `fault`
abbrev pub fault_count : Reply → ℕ
fault_count says.Fault = 1
fault_count _ = 0

abbrev pub faults_in : List Entry → ℕ
faults_in [] = 0
faults_in (e ∷ es) = fault_count e.reply + faults_in es

-- a count has risen by n at least, or stands at its last value
abbrev pub RoseBy : ℕ → ℕ → ℕ → Type 0
RoseBy n before now = (before + n ≤ now) ⊎ (2 ^ 64 - 1 ≤ now)

-- What a core keeps: where its store tells what it holds, its journal is a run that led to a sound state, in which each root was told to
-- the rotation under way; no more ledgers are listed, and no more epochs have ended, than it has entries; each actor's cursor stands
-- behind the lines that it has answered, and no entry before that of the line
-- that it waits for; the journal has room for an entry of each line; the store's count of faults isn't below that at opening; and each
-- `fault` has a rise of the count of its own, and so has each of those faults that stand apart: calls for a stored record that failed, and
-- actors whose fetch did.
pub record CoreKeeps (half : Half) (records : List Record) (lines : List Line) (cursors : List ℕ) (journal : List Entry)
    (capacity interval : ℕ) (told : Bool) (opened now apart : ℕ) (state : State) : Type 0 where
  pub run : IsTrue told → IsRunOf half records lines interval journal state
  pub sound : IsTrue told → Sound half state
  pub roots : IsTrue told → AreTold state
  pub listed_few : length state.listed ≤ length journal
  pub young : state.epoch ≤ length journal
  pub cursor_count : length cursors ≡ actors
  pub behind : (a : ℕ) → a < actors → slice_index cursors a ≤ length lines
  pub done : (a : ℕ) → a < actors → answered_by a journal ≡ numbers_of a (take (slice_index cursors a) lines)
  pub waits : Waits lines [] journal
  pub known : All (λ e. e.actor < actors) journal
  pub servable : AreServable lines
  pub recorded : AreRecords half records
  pub room : length lines ≤ capacity
  pub since : opened ≤ now
  pub fault_bound : RoseBy (faults_in journal + apart) opened now

-- One entry more, for this actor's next line and by a step of it. The store's count of faults never falls, no failed fetch of the actor
-- stands behind it, and the entry answers `fault` only for this cause.
pub record AdvancesFor (half : Half) (told : Bool) (Cause : Type 0) (old : CoreView) (a : ℕ) (new : CoreView) : Type 0 where
  pub entry : Entry
  pub line : Line
  -- it is the actor's next line, and the actor's entry
  pub next : next_line old.lines old.journal a ≡ Some line
  pub number : entry.line ≡ line.number
  pub actor : entry.actor ≡ a
  pub journal : new.journal ≡ old.journal ++ entry ∷ []
  -- the script, the interval, the count at opening and what was missed are as before
  pub records : new.records ≡ old.records
  pub lines : new.lines ≡ old.lines
  pub interval : new.interval ≡ old.interval
  pub opened : new.opened ≡ old.opened
  pub missed : new.missed ≡ old.missed
  pub failed : new.failed ≡ without a old.failed
  -- the count of faults, and the cause of a `fault`
  pub later : old.faults ≤ new.faults
  pub cause : entry.reply ≡ says.Fault → Cause
  -- a refusal leaves all that isn't stored as it was, whether the store tells what it holds or not
  pub refused : IsRefusal entry.reply → KeepsRest old.state new.state
  -- where the store tells what it holds, the state is what a step of that line leaves
  pub step : IsTrue told → Answers half old.lines old.state entry new.state
  -- and a check passes what is marked, and leaves the roots of a ledger without findings marked
  pub search : IsTrue told
      → SearchesBy half old.state line.command entry.reply (hunt_of old.hunts a) old.marks old.gets new.marks new.gets
  -- no search of the actor is kept behind it, and those of the others are as they were
  pub hunts : new.hunts ≡ slice_set old.hunts a None
  -- marks go by a swap that was done alone, and no other command but a check changes them
  pub marks : LeavesMarks line.command entry.reply old.marks new.marks
  -- a rotation that begins has done no slice, and no entry but that changes their count
  pub slices : CountsFrom line.command entry.reply old.slices new.slices

-- the same, where `fault` is answered only where the count rose in this very section
abbrev pub Advances : Half → Bool → CoreView → ℕ → CoreView → Type 0
Advances half told old a new = AdvancesFor half told (Rose old.faults new.faults) old a new

-- What a slice is of. One of a swap left something to copy: it is counted, and there are at most 64 of a rotation. One of a check has begun
-- anew where the generation had turned, at most twice, or has left at least 256 places less to look at.
abbrev pub IsSliceOf : Half → Bool → CoreView → ℕ → Command → CoreView → Type 0
IsSliceOf half told old a command.Swap new =
    (new.slices ≡ old.slices + 1) × (new.slices ≤ most_slices) × (new.marks ≡ old.marks) × (new.hunts ≡ old.hunts)
IsSliceOf half told old a (command.Check t) new = (new.slices ≡ old.slices) × (new.marks.generation ≡ old.marks.generation)
    × (new.hunts ≡ slice_set old.hunts a (hunt_of new.hunts a))
    × (IsTrue told → SlicesSearch half old.state t (hunt_of old.hunts a) old.marks (hunt_of new.hunts a))
IsSliceOf half told old a _ new = ⊥

-- A slice of the actor's next line, a swap or a check, that left something. No entry is recorded, and the state is as it was; where the
-- store doesn't tell what it holds, but for what is stored and what was told.
pub record Slices (half : Half) (told : Bool) (old : CoreView) (a : ℕ) (new : CoreView) : Type 0 where
  pub line : Line
  pub next : next_line old.lines old.journal a ≡ Some line
  pub slice : IsSliceOf half told old a line.command new
  pub later : old.faults ≤ new.faults
  pub state : IsTrue told → new.state ≡ old.state
  pub still : KeepsRest old.state new.state
  pub rest : new ≡ record old {
    faults = new.faults;
    gets = new.gets;
    slices = new.slices;
    written = new.written;
    archived = new.archived;
    marks = new.marks;
    hunts = new.hunts;
    state = new.state;
  }

-- a section of a check asks the backends at most 2,048 times, but where its search is run whole, since it began anew for the third time
abbrev pub ChecksFew : CoreView → ℕ → CoreView → Type 0
ChecksFew c a c' = (line : Line) → next_line c.lines c.journal a ≡ Some line
    → AsksFew line.command (hunt_of c.hunts a) c.marks.generation c.gets c'.gets

-- A section of this actor copies at most 256 hashes, but where its next line is a swap whose rotation has done its slices. Behind a swap,
-- which ends an epoch, the backend that was the writable one is the archive.
abbrev pub copied_to : CoreView → CoreView → Lookup
copied_to c c' = if c'.state.epoch == c.state.epoch then finite.get c'.written else finite.get c'.archived

pub record IsLastOfSlices (c : CoreView) (a : ℕ) : Type 0 where
  pub line : Line
  pub next : next_line c.lines c.journal a ≡ Some line
  pub swap : line.command ≡ command.Swap
  pub sliced : most_slices ≤ c.slices

abbrev pub CopiesAFew : CoreView → CoreView → Type 0
CopiesAFew c c' = CopiesAtMost most_copied (finite.get c.state.nodes) (finite.get c.written) (copied_to c c')

abbrev pub CopiesFew : CoreView → ℕ → CoreView → Type 0
CopiesFew c a c' = IsLastOfSlices c a ⊎ CopiesAFew c c'

-- a core's journal is a run of its script to its state
abbrev pub IsRun : Half → CoreView → Type 0
IsRun half c = IsRunOf half c.records c.lines c.interval c.journal c.state

-- What holds of a core each time that it is given back, where its store tells what it holds.
pub record IsMachineRun (half : Half) (c : CoreView) : Type 0 where
  -- the journal is a run of the store machine from the script's opening to the actual state
  pub run : IsRun half c
  -- each check is complete exactly where the ledger is, in the state before it
  pub checks : (along : IsRun half c) → AreExact half c.lines (opening_of c.records c.interval) c.journal c.state along
  -- what an answer says was received for a target stays, as long as the target is open or its ledger retained
  pub received : (along : IsRun half c) → AllStay half c.lines (opening_of c.records c.interval) c.journal c.state along
  -- what a read of a view says of a key is what each map of that kind with the view's root has there, or the nodes that it used and
  -- the map's show two different nodes with one hash
  pub reads : (along : IsRun half c) → AreEveryMaps half c.lines (opening_of c.records c.interval) c.journal c.state along
  -- each form is stored under its own hash, and each retained ledger is whole
  pub sound : Sound half c.state
  -- nothing that a retained ledger reaches is absent
  pub present : (t : Hash) → Contains (retained c.state) t → IsAllStored (form_in c.state) t
  -- each state of the run is sound, nothing that a retained ledger reaches is absent in it, and each map of an open view is a finite map
  -- of items, which the stored nodes commit to
  pub in_order : (along : IsRun half c) → AreInOrder half c.lines (opening_of c.records c.interval) c.journal c.state along
  -- each swap takes nothing that a retained ledger or an open acquisition reaches, and leaves nothing but what the rotation kept, which
  -- these or own forms reached since it began, and what was born in the epoch that ended
  pub swaps : (along : IsRun half c) → AllSwapsKeep half c.lines (λ h. ⊥) (opening_of c.records c.interval) c.journal c.state along
  -- a clash shows two different forms with one hash, of those that the script offers and those that its closes make, and a zero hash one
  -- of them that has it
  pub clashes : (along : IsRun half c) (e : Entry) → Contains c.journal e
      → ShowsIn half (brought_by half c.records c.lines c.interval c.journal c.state along) e.reply

-- What holds of a core each time that it is given back; `told` says whether its store tells what it holds.
pub record IsJournal (half : Half) (told : Bool) (c : CoreView) : Type 0 where
  -- the script's lines are numbered and in range, and its records are forms under their own hashes
  pub servable : AreServable c.lines
  pub recorded : AreRecords half c.records
  -- where it does, the journal is a run of the store machine
  pub machine : IsTrue told → IsMachineRun half c
  -- each actor's entries are for its first lines, in order, each once, and none stands before that of the line that it waits for
  pub projects : Projects c.lines c.journal
  -- each entry is of a known actor
  pub known : All (λ e. e.actor < actors) c.journal
  -- the store's count of faults isn't below that at opening
  pub since : c.opened ≤ c.faults
  -- each `fault`, each call for a stored record that failed, and each actor whose fetch did, has a rise of the store's count of its own
  pub faults : RoseBy (faults_in c.journal + (c.missed + length c.failed)) c.opened c.faults
  -- where the store tells what it holds, each open view keeps the header that is stored under its ledger's hash
  pub views : IsTrue told → AreViews c.state c.views

-- the first line of the actor from a place on is at this place
pub record IsNext (lines : List Line) (from a at : ℕ) : Type 0 where
  pub later : from ≤ at
  pub within : at < length lines
  pub actor : (line : Line) → line ≡ slice_index_or lines at line → line.actor ≡ a
  pub none : numbers_of a (take at lines) ≡ numbers_of a (take from lines)

-- each line before a place has a lower number
abbrev pub AllBefore : List Line → ℕ → ℕ → Type 0
AllBefore lines at number = (k : ℕ) (d : Line) → k < at → k < length lines → (slice_index_or lines k d).number < number

-- no line from a place on has a lower number
abbrev pub AllFrom : List Line → ℕ → ℕ → Type 0
AllFrom lines at number = (k : ℕ) (d : Line) → at ≤ k → k < length lines → number ≤ (slice_index_or lines k d).number
