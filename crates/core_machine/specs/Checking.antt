-- What a section leaves of what searches share, and what a check asks of the store.
use Rattle.std.specs.Prelude.{◌≡◌, ◌⊎◌, ◌+◌, ◌≤◌, ℕ, Bool, IsTrue, true, List, [], length}
use Rattle.std.specs.Prelude.{Option, None, Some, IfSome, OnSome, MatchOption, IsSomeAnd}
use Rattle.std.specs.Bool.{⊤}
use Rattle.ledger_spec.specs.Bytes.{Hash, Half}
use Rattle.ledger_spec.specs.Findings.{Whole}
use Rattle.ledger_spec.specs.Maps.{has_in, hash_cmp}
use Rattle.full_below.specs.declared.marks.Marks.{Marks}
use Rattle.missing_walk.specs.declared.Found.{Found}
use Rattle.missing_walk.specs.Ends.{IsClean}
use Rattle.missing_walk.specs.Founds.{IsFound}
use Rattle.missing_walk.specs.Passes.{HasMarkedRoots}
use Rattle.missing_walk.specs.Sees.{Finds}
use Rattle.ledger_searches.specs.declared.hunt.Hunt.{Hunt}
use Rattle.ledger_searches.specs.declared.searches.Searches.{Searches}
use Rattle.ledger_searches.specs.Hunting.{GoesOn, IsRunWhole, IsUnbegun, hunt_of, most_asked}
use Rattle.ledger_searches.specs.Sharing.{IsPaired, AreTrueOf, IsTurned, LeavesOthers, Forgets}
use Rattle.ledger_machine.specs.declared.commands.Command.{Command}
use Rattle.ledger_machine.specs.declared.commands.Command.TheVariants as command
use Rattle.ledger_machine.specs.declared.commands.Nature.{Nature}
use Rattle.ledger_machine.specs.declared.commands.Nature.TheVariants as natures
use Rattle.ledger_machine.specs.declared.journal.Entry.{Entry}
use Rattle.ledger_machine.specs.declared.commands.Reply.{Reply}
use Rattle.ledger_machine.specs.declared.commands.Reply.TheVariants as says
use Rattle.ledger_machine.specs.declared.commands.SwapReply.TheVariants as swaps
use Rattle.ledger_machine.specs.State.{State, form_in}
use Rattle.ledger_machine.specs.Commands.{nature_of, searched_by}
use Rattle.core_machine.specs.Commands.{IsNoCheck}
use Rattle.core_machine.specs.Desks.{Desk}
use Rattle.core_machine.specs.Refusals.{IsRefusal}
use Rattle.core_machine.specs.Telling.{IsSlice}
use Rattle.core_machine.specs.declared.acquiring.Sought.{Sought}
use Rattle.core_machine.specs.declared.acquiring.Sought.TheVariants as sought
use Rattle.core_machine.specs.declared.rotating.Part.{Part}
use Rattle.core_machine.specs.declared.rotating.Part.TheVariants as parts

-- an acquisition is open under the target
abbrev pub IsOpen : State → Hash → Type 0
IsOpen s t = has_in hash_cmp s.wanted t ≡ true

-- what a check is answered by: where its acquisition is open, what is found of the ledger in the state
abbrev pub HasFound : Half → Bool → State → Command → Option Found → Type 0
HasFound half told s c found = IfSome (searched_by c) (λ t.
    IsOpen s t → IsSomeAnd found (λ f. IsFound f × (IsTrue told → Finds half (form_in s) t f)))

-- what is found is found before the reply: a check that is answered by it asks the backends nothing
abbrev pub AsksNothing : Command → ℕ → ℕ → Type 0
AsksNothing c gets gets' = OnSome (searched_by c) (gets' ≡ gets)

-- A check of an open acquisition that isn't refused and finds nothing missing and nothing broken leaves the roots that the stored header
-- names marked, unless their maps are empty. Where they were marked before, and no search of the ledger was begun, the backends are asked
-- at most twice.
pub record ChecksByMarks (half : Half) (s : State) (t : Hash) (reply : Reply) (o : Option Hunt) (m : Marks) (gets : ℕ) (m' : Marks)
    (gets' : ℕ) : Type 0 where
  pub roots : IsOpen s t → (IsRefusal reply → ⊥) → Whole half (form_in s) t → HasMarkedRoots (form_in s) t m'
  pub few : IsUnbegun o t → HasMarkedRoots (form_in s) t m → gets' ≤ gets + 2

-- the same of a command that is a check
abbrev pub SearchesBy : Half → State → Command → Reply → Option Hunt → Marks → ℕ → Marks → ℕ → Type 0
SearchesBy half s c reply o m gets m' gets' = IfSome (searched_by c) (λ t. ChecksByMarks half s t reply o m gets m' gets')

-- A section of a check that isn't answered: its acquisition is open, its search goes on, and the roots weren't marked as it began.
pub record SlicesSearch (half : Half) (s : State) (t : Hash) (o : Option Hunt) (m : Marks) (o' : Option Hunt) : Type 0 where
  pub open_still : IsOpen s t
  pub goes : GoesOn half (form_in s) m.generation t o o'
  pub unmarked : IsUnbegun o t → HasMarkedRoots (form_in s) t m → ⊥

-- a section of a check asks the backends at most 2,048 times, but where its search is run whole
abbrev pub AsksFew : Command → Option Hunt → ℕ → ℕ → ℕ → Type 0
AsksFew c o now gets gets' = IfSome (searched_by c) (λ t. IsRunWhole now o t ⊎ (gets' ≤ gets + most_asked))

-- what searches share is of one generation, and where the store tells what it holds it is true of that
pub record AreKept (half : Half) (told : Bool) (s : State) (x : Searches) : Type 0 where
  pub paired : IsPaired x
  pub rule : IsTrue told → AreTrueOf half (form_in s) x

-- What a section of an actor's command leaves of it is true of the state before, in the same generation, and no other actor's search is
-- another one. A slice of a check asks the backends seldom.
pub record Shares (half : Half) (told : Bool) (s : State) (a : ℕ) (c : Command) (part : Part) (x : Searches) (gets : ℕ) (x' : Searches)
    (gets' : ℕ) : Type 0 where
  pub kept : AreKept half told s x'
  pub generation : x'.marks.generation ≡ x.marks.generation
  pub others : LeavesOthers a x x'
  pub few : part ≡ parts.Slice → AsksFew c (hunt_of x.hunts.items a) x.marks.generation gets gets'

-- what is searched of a ledger before a check of it is answered: to its end, where its acquisition is open, or not to its end
abbrev pub IsSought : Half → Bool → State → Hash → Part → Sought → Type 0
IsSought half told s t part (sought.Ended found) = HasFound half told s (command.Check t) found
IsSought half told s t part sought.More = part ≡ parts.Slice

-- what a slice of a search comes to
abbrev pub sought_by : Option Found → Sought
sought_by (Some found) = sought.Ended (Some found)
sought_by None = sought.More

-- and what that leaves of the marks and of the actor's search
abbrev pub LeavesSearch : Half → State → Hash → Option Hunt → Marks → Option Hunt → Marks → Sought → Type 0
LeavesSearch half s t o m o' m' (sought.Ended found) = IfSome found (λ f. IsClean f → HasMarkedRoots (form_in s) t m')
LeavesSearch half s t o m o' m' sought.More = SlicesSearch half s t o m o'

-- A slice of a command that searches nothing, which is of a swap, leaves what searches share.
abbrev pub IsSwapSliced : Nature → Part → Desk → Searches → Desk → Searches → Type 0
IsSwapSliced natures.Swap part d x d' x' = IsSlice command.Swap part d d' × (x' ≡ x)
IsSwapSliced natures.Table part d x d' x' = ⊥
IsSwapSliced natures.Check part d x d' x' = ⊥
IsSwapSliced natures.Read part d x d' x' = ⊥
IsSwapSliced natures.View part d x d' x' = ⊥
IsSwapSliced natures.Unview part d x d' x' = ⊥
IsSwapSliced natures.Session part d x d' x' = ⊥
IsSwapSliced natures.Begin part d x d' x' = ⊥

-- A section that leaves its command for another one: a slice of a swap, or one of a check, which is as said above.
abbrev pub IsSliced : Half → Bool → ℕ → Command → Part → Desk → Searches → Desk → Searches → Type 0
IsSliced half told a c part d x d' x' = MatchOption (searched_by c) (IsSwapSliced (nature_of c) part d x d' x') (λ t.
    (part ≡ parts.Slice) × (d'.slices ≡ d.slices)
    × (IsTrue told → SlicesSearch half d.state t (hunt_of x.hunts.items a) x.marks (hunt_of x'.hunts.items a)))

-- behind an entry no search of its actor is kept; behind a swap, which may have lost what is marked, the next generation begins too
pub record ForgetsAndTurns (a : ℕ) (x x' : Searches) : Type 0 where
  pub between : Searches
  pub forgets : Forgets a x between
  pub turns : IsTurned between x'

abbrev pub TurnsBy : Reply → ℕ → Searches → Searches → Type 0
TurnsBy (says.Swap (swaps.Swapped epoch)) a x x' = ForgetsAndTurns a x x'
TurnsBy reply a x x' = Forgets a x x'

-- the answer of a swap that was done
abbrev pub IsSwapped : Reply → Type 0
IsSwapped (says.Swap (swaps.Swapped epoch)) = ⊤
IsSwapped _ = ⊥

-- What an entry leaves of the marks: behind a swap that was done the next generation begins, in which nothing is marked; behind every other
-- entry the generation is the same, and the marks of a command that is no check are.
pub record LeavesMarks (c : Command) (reply : Reply) (m m' : Marks) : Type 0 where
  pub turned : IsSwapped reply → (m'.generation ≡ m.generation + 1) × (m'.entries.entries ≡ [])
  pub stays : (IsSwapped reply → ⊥) → m'.generation ≡ m.generation
  pub idle : (IsSwapped reply → ⊥) → IsNoCheck c → m' ≡ m

-- what the core keeps of it: no more generations have ended than the core has entries
pub record KeepsSearches (half : Half) (told : Bool) (s : State) (journal : List Entry) (x : Searches) : Type 0 where
  pub kept : AreKept half told s x
  pub young : x.marks.generation ≤ length journal
