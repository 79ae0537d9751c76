-- What a section of the hall does that answers a command by what a reader hands in.
use Rattle.std.proofs.Common.{◌≡◌, ◌≢◌, ◌-◌, inr, ℕ, Bool, IsTrue, List, [], Option, None, Some}
use Rattle.std.proofs.Common.{refl, sym, ◌∙◌, subst, arith, IfSome, IsNone}
use Rattle.std.specs.Prelude.{MatchOption}
use Rattle.ledger_spec.specs.declared.Kind.{Kind}
use Rattle.ledger_spec.specs.Bytes.{Hash, Half}
use Rattle.ledger_spec.specs.Forms.{Held}
use Rattle.ledger_machine.specs.declared.commands.Command.{Command}
use Rattle.ledger_machine.specs.declared.commands.Command.TheVariants as command
use Rattle.ledger_machine.specs.declared.commands.GetReply.{GetReply}
use Rattle.ledger_machine.specs.declared.commands.GetReply.TheVariants as gets
use Rattle.ledger_machine.specs.declared.commands.Reply.{Reply}
use Rattle.ledger_machine.specs.declared.commands.Reply.TheVariants as says
use Rattle.ledger_machine.specs.Reading.{view_root, IsRead, outcome_of}
use Rattle.ledger_machine.specs.State.{State}
use Rattle.ledger_machine.specs.Commands.{MayBeRefused}
use Rattle.ledger_machine.specs.Steps.{Gets, Step, UsesNodes}
use Rattle.node_backend.specs.declared.back.BackFault.{BackFault}
use Rattle.node_backend.specs.declared.back.BackFault.TheVariants as back
use Rattle.run_io.specs.Bytes.{Rose}
use Rattle.ledger_searches.specs.declared.searches.Searches.{Searches}
use Rattle.ledger_searches.specs.Hunting.{hunt_of}
use Rattle.rotating_store.specs.Stores.{merged}
use Rattle.core_machine.specs.Commands.{IsNoCheck, IsQuiet}
use Rattle.core_machine.specs.Checking.{AreKept, AsksNothing}
use Rattle.core_machine.specs.Desks.{Desk, OnlyReads, backs}
use Rattle.core_machine.specs.Serving.{Answers, LeavesMore, Steps}
use Rattle.core_machine.specs.declared.rotating.Part.{Part}
use Rattle.core_machine.proofs.shared.Checks.{others_same}
use Rattle.core_machine.proofs.shared.Sections.{none_copied, reads_keep}
use Rattle.core_machine.specs.Refusals.{read_refusal}
use Rattle.core_machine.specs.Telling.{AreTold, CopiesBy}
use Rattle.missing_walk.specs.declared.fault.SearchFault.TheVariants as search
use Rattle.core_machine.proofs.shared.Serving.{step_self, serves_after, serves_refused, serves_for, idle_asks, idle_search}

-- what a path says of a key below the root of a view's map
pub step_got : (half : Half) (s : State) (a v : ℕ) (kind : Kind) (key root : Hash) (g : GetReply) (used : List Held)
    → view_root s kind (a, v) ≡ Some root → IsRead half kind key root (says.Get g) used → AreTold s
    → Step half s a (command.Get v kind key) (says.Get g) used s
step_got half s a v kind key root g used is read told =
    step_self half s a (command.Get v kind key) (says.Get g) used told
    (subst (λ (o : Option Hash). Gets half s kind key o (says.Get g) used s) (sym is) (read, refl)) (uses g read.some)
  where
    uses : (x : GetReply) → outcome_of (says.Get x) ≢ None → UsesNodes (says.Get x) used
    uses gets.Nothing some = tt
    uses (gets.Value n) some = tt
    uses gets.NoView some = absurd (some refl)

-- where nothing was done the desk reads itself
pub reads_self : (told : Bool) (d : Desk) → OnlyReads told d d
reads_self told d = record {
  state = λ _. refl;
  copies = λ _. refl;
  slices = refl;
  tables = refl;
  later = omega arith;
}

pub quiet_no_check : (c : Command) → IsQuiet c → IsNoCheck c
quiet_no_check (command.Check t) quiet = absurd quiet
quiet_no_check c quiet = tt

-- it copies nothing, and asks for no check
quiet_copies : (c : Command) (d d' : Desk) → IsQuiet c → backs d' ≡ backs d → CopiesBy c d d'
quiet_copies (command.Check t) d d' quiet same = absurd quiet
quiet_copies command.Swap d d' quiet same = absurd quiet
quiet_copies c d d' quiet same = same

quiet_backs : (c : Command) (d d' : Desk) → IsQuiet c → CopiesBy c d d' → backs d' ≡ backs d
quiet_backs (command.Check t) d d' quiet copies = absurd quiet
quiet_backs command.Swap d d' quiet copies = absurd quiet
quiet_backs c d d' quiet copies = copies

quiet_nothing : (c : Command) (gets gets' : ℕ) → IsQuiet c → AsksNothing c gets gets'
quiet_nothing (command.Check t) gets gets' quiet = absurd quiet
quiet_nothing c gets gets' quiet = tt

module _ (half : Half) (told : Bool) (a : ℕ) (c : Command) (d d' : Desk) where
  -- a command that only read, and was refused
  pub steps_refused : (why : BackFault) → IsQuiet c → MayBeRefused c → OnlyReads told d d' → (IsTrue told → AreTold d.state)
      → (why ≡ back.Fault → Rose d.faults d'.faults) → Steps half told d a c (read_refusal why) [] d'
  steps_refused why quiet may reads roots cause = record {
    serves = serves_refused half told a c (Rose d.faults d'.faults) d d' why may reads roots cause;
    copies = λ t. quiet_copies c d d' quiet (reads.copies t);
    asks = quiet_nothing c d.gets d'.gets quiet;
  }

  -- one that reads before it answers
  pub steps_after : (mid : Desk) (reply : Reply) (used : List Held) → IsQuiet c → OnlyReads told d mid → Steps half told mid a c reply
      used d'
      → Steps half told d a c reply used d'
  steps_after mid reply used quiet reads steps = record {
    serves = serves_after half told a c d mid d' reply used (reads_keep told d mid reads) reads.slices steps.serves;
    copies = λ t. quiet_copies c d d' quiet (quiet_backs c mid d' quiet (steps.copies t) ∙ reads.copies t);
    asks = quiet_nothing c d.gets d'.gets quiet;
  }

-- a command that is done in one section leaves what searches share
pub answers_quiet : (half : Half) (told : Bool) (d : Desk) (a : ℕ) (c : Command) (part : Part) (x : Searches)
    (reply : Reply) (used : List Held) (d' : Desk) → IsQuiet c → AreKept half told d.state x
    → d.state.nodes ≡ merged d.written d.archived → Steps half told d a c reply used d'
    → Answers half told (Rose d.faults d'.faults) d a c part x reply used x d'
answers_quiet half told d a c part x reply used d' quiet kept all steps = record {
  serves = steps.serves;
  shares = record {
    kept = kept;
    generation = refl;
    others = others_same a x x refl;
    few = λ cut. idle_asks c (hunt_of x.hunts.items a) x.marks.generation d.gets d'.gets (quiet_no_check c quiet);
  };
  search = λ t. idle_search half d.state c reply (hunt_of x.hunts.items a) x.marks d.gets x.marks d'.gets (quiet_no_check c quiet);
  few = λ t cut. inr (none_copied d d' all (quiet_backs c d d' quiet (steps.copies t)));
  idle = λ _. refl;
}

-- a section, for any wider cause
pub answers_for : (half : Half) (told : Bool) (P Q : Type 0) (d : Desk) (a : ℕ) (c : Command) (part : Part) (x x' : Searches)
    (reply : Reply) (used : List Held) (d' : Desk) → (P → Q) → Answers half told P d a c part x reply used x' d'
    → Answers half told Q d a c part x reply used x' d'
answers_for half told P Q d a c part x x' reply used d' wider by = record {
  serves = serves_for half told a c P Q d d' reply used wider by.serves;
  shares = by.shares;
  search = by.search;
  few = by.few;
  idle = by.idle;
}

-- what a section steps by, and where it leaves the state
module _ {X : Type 0} (o : Option X) (reply : X → Reply) (used : X → List Held) (half : Half) (told : Bool) (Cause : Type 0) (d : Desk)
    (a : ℕ) (c : Command) (part : Part) (x x' : Searches) (d' : Desk) where
  pub section_step : MatchOption o (LeavesMore half told d a c part x x' d')
      (λ r. Answers half told Cause d a c part x (reply r) (used r) x' d') → IsTrue told
      → IfSome o (λ r. Step half d.state a c (reply r) (used r) d'.state)
  section_step does t = at o does
    where
      at : (p : Option X) → MatchOption p (LeavesMore half told d a c part x x' d')
          (λ r. Answers half told Cause d a c part x (reply r) (used r) x' d') → IfSome p (λ r. Step half d.state a c (reply r) (used r)
          d'.state)
      at None more = tt
      at (Some r) by = by.serves.step t

  pub section_same : MatchOption o (LeavesMore half told d a c part x x' d')
      (λ r. Answers half told Cause d a c part x (reply r) (used r) x' d') → IsTrue told → IsNone o → d'.state ≡ d.state
  section_same does t = at o does
    where
      at : (p : Option X) → MatchOption p (LeavesMore half told d a c part x x' d')
          (λ r. Answers half told Cause d a c part x (reply r) (used r) x' d') → IsNone p → d'.state ≡ d.state
      at None more none = more.same t
      at (Some r) by none = cc

-- and for any wider cause
pub section_for : {X : Type 0} (o : Option X) (reply : X → Reply) (used : X → List Held) (half : Half) (told : Bool) (P Q : Type 0) (d :
    Desk)
    (a : ℕ) (c : Command) (part : Part) (x x' : Searches) (d' : Desk) → (P → Q)
    → MatchOption o (LeavesMore half told d a c part x x' d') (λ r. Answers half told P d a c part x (reply r) (used r) x' d')
    → MatchOption o (LeavesMore half told d a c part x x' d') (λ r. Answers half told Q d a c part x (reply r) (used r) x' d')
section_for None reply used half told P Q d a c part x x' d' wider does = does
section_for (Some r) reply used half told P Q d a c part x x' d' wider does =
    answers_for half told P Q d a c part x x' (reply r) (used r) d' wider does
