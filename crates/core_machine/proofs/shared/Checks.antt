-- A search in the machine: what it is known of, what it found, and what a section asks.
use Rattle.std.proofs.Common.{◌≡◌, ◌⊎◌, ℕ, ◌+◌, ◌≤◌, Bool, IsTrue, List, [], Option}
use Rattle.std.proofs.Common.{None, Some, IfSome, IsNone, IsSome, IsSomeAnd, refl, sym, ap, ◌∙◌, subst}
use Rattle.std.specs.Prelude.{slice_set}
use Rattle.std.proofs.lemmas.List.{set-get_or}
use Rattle.std.specs.FinMap as finite
use Rattle.std.specs.List.{filter_map}
use Rattle.ledger_spec.specs.Bytes.{Hash, Half, Lookup, Nodes}
use Rattle.ledger_spec.specs.Findings.{Finding, findings, missing_of, first_broken, up_to}
use Rattle.ledger_spec.specs.Own.{AreStored}
use Rattle.ledger_spec.proofs.shared.Owning.{all_own}
use Rattle.rotating_store.proofs.shared.Reading.{stored_notes}
use Rattle.rotating_store.specs.Stores.{Store, nodes_of}
use Rattle.full_below.specs.declared.marks.Marks.{Marks}
use Rattle.missing_walk.specs.declared.Found.{Found}
use Rattle.missing_walk.specs.Ends.{IsClean}
use Rattle.missing_walk.specs.Founds.{IsFound}
use Rattle.missing_walk.specs.Passes.{HasMarkedRoots}
use Rattle.missing_walk.specs.Sees.{Finds}
use Rattle.missing_walk.specs.Views.{Tells}
use Rattle.ledger_searches.specs.declared.searches.Searches.{Searches}
use Rattle.ledger_searches.specs.declared.hunt.Hunt.{Hunt}
use Rattle.ledger_searches.specs.Hunting.{GoesOn, IsRunWhole, IsUnbegun, hunt_of, most_asked}
use Rattle.ledger_searches.specs.Sharing.{IsPaired, AreTrueOf, LeavesOthers}
use Rattle.ledger_machine.specs.declared.commands.Command.{Command}
use Rattle.ledger_machine.specs.declared.commands.Command.TheVariants as command
use Rattle.ledger_machine.specs.State.{State, form_in}
use Rattle.core_machine.specs.declared.rotating.Part.{Part}
use Rattle.core_machine.specs.declared.rotating.Part.TheVariants as parts
use Rattle.core_machine.specs.Commands.{IsNoCheck}
use Rattle.core_machine.specs.Checking.{AsksNothing, HasFound, IsOpen, IsSought}
use Rattle.core_machine.specs.Checking.{LeavesSearch, Shares, sought_by}
use Rattle.core_machine.proofs.shared.Entries.{IsOver, filed_over}

-- what a state's store tells
pub tells_over : (tells : Bool) (half : Half) (st : Store) (s : State) → IsTrue tells → IsOver st s → AreStored half (form_in s)
    → Tells tells half st (form_in s)
tells_over tells half st s told is all = record {
  readable = (told, stored_notes half st (filed_over half st s is all));
  same = all_own half (finite.get (nodes_of st)) (filed_over half st s is all) ∙ ap (λ (n : Nodes). finite.get n) (sym is.nodes);
}

-- where nothing is found
pub clean : (half : Half) (nodes : Lookup) (t : Hash) (f : Found) → Finds half nodes t f → findings half nodes t ≡ [] → IsClean f
clean half nodes t f finds none = record {
  missing = finds.missing ∙ ap (λ (fs : List Finding). filter_map missing_of (up_to 256 fs)) none;
  broken = finds.broken ∙ ap (λ (fs : List Finding). first_broken (up_to 256 fs)) none;
}

-- where the searches of all actors are as they were
pub others_same : (a : ℕ) (x x' : Searches) → x'.hunts.items ≡ x.hunts.items → LeavesOthers a x x'
others_same a x x' same =
    same ∙ sym (set-get_or x.hunts.items a None)
    ∙ ap (λ (hs : List (Option Hunt)). slice_set x.hunts.items a (hunt_of hs a)) (sym same)

-- what a slice of the search leaves, and what one that is run to its end
module _ (half : Half) (told : Bool) (s : State) (a : ℕ) (t : Hash) (part : Part) (x : Searches) (gets0 gets : ℕ) (x' : Searches) (gets' :
    ℕ)
    (same : gets0 ≡ gets) (paired : IsPaired x') (generation : x'.marks.generation ≡ x.marks.generation)
    (rule : IsTrue told → AreTrueOf half (form_in s) x') where
  pub slice_shares : LeavesOthers a x x' → IsRunWhole x.marks.generation (hunt_of x.hunts.items a) t ⊎ (gets' ≤ gets0 + most_asked)
      → Shares half told s a (command.Check t) part x gets x' gets'
  slice_shares others few = record {
    kept = record { paired = paired; rule = rule };
    generation = generation;
    others = others;
    few = λ cut. subst (λ (n : ℕ). IsRunWhole x.marks.generation (hunt_of x.hunts.items a) t ⊎ (gets' ≤ n + most_asked)) same few;
  }

  pub look_shares : part ≡ parts.Whole → x'.hunts.items ≡ x.hunts.items → Shares half told s a (command.Check t) part x gets x' gets'
  look_shares whole hunts = record {
    kept = record { paired = paired; rule = rule };
    generation = generation;
    others = others_same a x x' hunts;
    few = λ cut. cc (whole, cut);
  }

-- ---- what was found before a check is answered
module _ (half : Half) (told : Bool) (s s' : State) (t : Hash) (same : IsTrue told → form_in s' ≡ form_in s) where
  pub found_on : (f : Found) → IsFound f → (IsTrue told → Finds half (form_in s) t f)
      → HasFound half told s' (command.Check t) (Some f)
  found_on f known finds = λ opened.
      (known, λ tells. subst (λ (n : Lookup). Finds half n t f) (sym (same tells)) (finds tells))

  pub sought_on : (part : Part) (o : Option Found) → part ≡ parts.Slice → IfSome o IsFound
      → (IsTrue told → IfSome o (Finds half (form_in s) t)) → IsSought half told s' t part (sought_by o)
  sought_on part None cut known finds = cut
  sought_on part (Some f) cut known finds = found_on f known finds

-- what is found of a ledger whose acquisition is open
pub found_here : (half : Half) (told : Bool) (s : State) (t : Hash) (o : Option Found) (f : Found) → HasFound half told s (command.Check
    t) o
    → IsOpen s t → o ≡ Some f → IsFound f × (IsTrue told → Finds half (form_in s) t f)
found_here half told s t o f has opened is =
    subst (λ (p : Option Found). IsSomeAnd p (λ g. IsFound g × (IsTrue told → Finds half (form_in s) t g))) is (has opened)

-- what a slice of the search leaves
pub leaves_on : (half : Half) (s : State) (t : Hash) (h : Option Hunt) (m : Marks) (h' : Option Hunt) (m' : Marks) (o : Option Found)
    → IsOpen s t → IfSome o (λ f. IsClean f → HasMarkedRoots (form_in s) t m')
    → (IsNone o → GoesOn half (form_in s) m.generation t h h') → (IsUnbegun h t → HasMarkedRoots (form_in s) t m → IsSome o)
    → LeavesSearch half s t h m h' m' (sought_by o)
leaves_on half s t h m h' m' (Some f) opened marked goes first = marked
leaves_on half s t h m h' m' None opened marked goes first =
    record { open_still = opened; goes = goes refl; unmarked = λ unbegun roots. cc (first unbegun roots) }

-- ---- commands that are no check
asks_none : (c : Command) (gets gets' : ℕ) → IsNoCheck c → AsksNothing c gets gets'
asks_none (command.Check t) gets gets' other = absurd other
asks_none c gets gets' other = tt

-- the same of a command that is known by its name
pub asks_as : (c d : Command) (gets gets' : ℕ) → c ≡ d → IsNoCheck d → AsksNothing c gets gets'
asks_as c d gets gets' is other = asks_none c gets gets' (subst IsNoCheck (sym is) other)

pub found_none : (half : Half) (told : Bool) (s : State) (c : Command) (o : Option Found) → IsNoCheck c → HasFound half told s c o
found_none half told s (command.Check t) o other = absurd other
found_none half told s c o other = tt
