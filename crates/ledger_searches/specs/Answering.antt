-- What a search answers, and what it leaves of what searches share and of the store.
use Rattle.std.specs.Prelude.{◌≡◌, ◌⊎◌, ◌+◌, ◌≤◌, ℕ, Bool, Option, None, Result, IfOk, IfErr, IsSome, IsNone}
use Rattle.run_io.specs.Bytes.{Rose}
use Rattle.ledger_spec.specs.Bytes.{Half, Hash, Lookup}
use Rattle.rotating_store.specs.Stores.{Store}
use Rattle.rotating_store.specs.Reading.{WasRead}
use Rattle.missing_walk.specs.declared.Found.{Found}
use Rattle.missing_walk.specs.declared.fault.SearchFault.{SearchFault}
use Rattle.missing_walk.specs.declared.fault.SearchFault.TheVariants as faults
use Rattle.missing_walk.specs.Ends.{IsClean}
use Rattle.missing_walk.specs.Founds.{IsFound}
use Rattle.missing_walk.specs.Passes.{HasMarkedRoots}
use Rattle.missing_walk.specs.Sees.{Finds}
use Rattle.missing_walk.specs.Views.{Tells}
use Rattle.ledger_searches.specs.declared.searches.Searches.{Searches}
use Rattle.ledger_searches.specs.Hunting.{GoesOn, IsRunWhole, IsUnbegun, hunt_of, most_asked}
use Rattle.ledger_searches.specs.Sharing.{IsPaired, AreTrueOf, LeavesOthers}

-- what is found is found of the ledger, where what is shared is true of what the store tells; the roots of a ledger without findings are
-- marked then
pub record FindsLedger (tells : Bool) (half : Half) (s : Store) (target : Hash) (x x' : Searches) (OfFound : (Found → Type 0) → Type 0)
    : Type 0 where
  pub found : (nodes : Lookup) → Tells tells half s nodes → AreTrueOf half nodes x → OfFound (Finds half nodes target)
  pub known : OfFound IsFound
  pub roots : (nodes : Lookup) → Tells tells half s nodes → AreTrueOf half nodes x
      → OfFound (λ f. IsClean f → HasMarkedRoots nodes target x'.marks)

-- what is shared stays true, in one and the same generation; the store was only read, and the search ends with the fault only where the
-- count of faults rose
pub record LeavesShared {X : Type 0} (tells : Bool) (half : Half) (s s' : Store) (x x' : Searches) (result : Result X SearchFault)
    : Type 0 where
  pub keeps : (nodes : Lookup) → Tells tells half s nodes → AreTrueOf half nodes x → AreTrueOf half nodes x'
  pub paired : IsPaired x'
  pub generation : x'.marks.generation ≡ x.marks.generation
  pub read : WasRead tells half s s'
  pub cause : IfErr result (λ e. e ≡ faults.Fault → Rose s.faults s'.faults)

-- without an answer the actor's search goes on, with one it is gone, and those of the others are as they were
pub record LeavesHunt (tells : Bool) (half : Half) (s : Store) (actor : ℕ) (target : Hash) (x x' : Searches)
    (result : Result (Option Found) SearchFault) : Type 0 where
  pub more : (nodes : Lookup) → Tells tells half s nodes → AreTrueOf half nodes x
      → IfOk result (λ o. IsNone o → GoesOn half nodes x.marks.generation target (hunt_of x.hunts.items actor)
      (hunt_of x'.hunts.items actor))
  pub answered : IfOk result (λ o. IsSome o → hunt_of x'.hunts.items actor ≡ None)
  pub others : LeavesOthers actor x x'

-- a slice that begins the search of a ledger whose roots are marked ends it, and asks each backend at most once; any other one that
-- isn't run whole asks a few times at most
pub record AsksFew (tells : Bool) (half : Half) (s s' : Store) (actor : ℕ) (target : Hash) (x : Searches)
    (result : Result (Option Found) SearchFault) : Type 0 where
  pub first : (nodes : Lookup) → Tells tells half s nodes
      → IsUnbegun (hunt_of x.hunts.items actor) target → HasMarkedRoots nodes target x.marks
      → IfOk result IsSome × (s'.gets ≤ s.gets + 2)
  pub few : IsRunWhole x.marks.generation (hunt_of x.hunts.items actor) target
      ⊎ (s'.gets ≤ s.gets + most_asked)
