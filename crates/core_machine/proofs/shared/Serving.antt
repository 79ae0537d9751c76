-- What a section of the machine does that answers a command: what is refused, what is read before, and the step.
use Rattle.std.proofs.Common.{◌≡◌, ◌+◌, ◌<◌, ◌-◌, inl, inr, ℕ, Bool, IsTrue, List, [], Option, None, Some, Result, Ok, Err, IfOk}
use Rattle.std.proofs.Common.{IfErr}
use Rattle.std.proofs.Common.{◌≤◌, Contains, refl, sym, ap, ◌∙◌, subst, arith, IfSome}
use Rattle.std.specs.Prelude.{◌^◌, IsSomeAnd}
use Rattle.ledger_spec.specs.Bytes.{Bytes, Hash, Half}
use Rattle.ledger_spec.specs.Forms.{Held}
use Rattle.ledger_machine.specs.declared.commands.Command.{Command}
use Rattle.ledger_machine.specs.declared.commands.Command.TheVariants as command
use Rattle.ledger_machine.specs.declared.commands.GetReply.TheVariants as gets
use Rattle.ledger_machine.specs.declared.commands.Reply.{Reply}
use Rattle.ledger_machine.specs.declared.commands.Reply.TheVariants as says
use Rattle.ledger_machine.specs.Rotation.{AreShaded, Tells, WhileTurning}
use Rattle.ledger_machine.specs.State.{State}
use Rattle.ledger_machine.specs.Commands.{IsSteady, MayBeRefused}
use Rattle.ledger_machine.specs.Steps.{Step, Outcomes, UsesNodes, own_hashes}
use Rattle.ledger_laws.proofs.shared.Carrying.{step_told}
use Rattle.node_backend.specs.declared.back.BackFault.{BackFault}
use Rattle.node_backend.specs.declared.back.BackFault.TheVariants as back
use Rattle.run_io.specs.Bytes.{Rose}
use Rattle.full_below.specs.declared.marks.Marks.{Marks}
use Rattle.ledger_searches.specs.declared.hunt.Hunt.{Hunt}
use Rattle.ledger_searches.specs.declared.searches.Searches.{Searches}
use Rattle.ledger_searches.specs.Hunting.{hunt_of}
use Rattle.rotating_store.specs.Stores.{merged}
use Rattle.core_machine.specs.Commands.{IsNoCheck, IsOfSessions, TellsRoot}
use Rattle.core_machine.specs.Checking.{AreKept, AsksFew, IsOpen, IsSliced, IsSought, LeavesSearch, SearchesBy}
use Rattle.core_machine.specs.Checking.{Shares}
use Rattle.core_machine.specs.Desks.{Desk, KeepsState, OnlyReads}
use Rattle.core_machine.specs.Serving.{Acts, Answers, LeavesMore, MayServe, Seeks, Serves, Steps}
use Rattle.core_machine.specs.declared.rotating.Part.{Part}
use Rattle.core_machine.proofs.shared.Checks.{clean, others_same}
use Rattle.core_machine.proofs.Roots.{told_on}
use Rattle.core_machine.proofs.shared.Sections.{behind_same, copied_few, grows_here, grows_on, none_copied, reads_keep, rest_then}
use Rattle.core_machine.specs.Refusals.{IsRefusal, read_refusal, search_refusal}
use Rattle.core_machine.specs.Telling.{AreTold, Carried, CopiesFew, CountsFrom, IsSlice, SlicesFirst}
use Rattle.core_machine.specs.Telling.{most_copied}
use Rattle.core_machine.specs.declared.acquiring.Sought.{Sought}
use Rattle.core_machine.specs.declared.acquiring.Sought.TheVariants as sought
use Rattle.copy_walk.specs.Counts.{CopiesAtMost}
use Rattle.copy_walk.specs.declared.walk.Left.{Left}
use Rattle.copy_walk.specs.declared.walk.Left.TheVariants as left
use Rattle.std.specs.FinMap as finite
use Rattle.ledger_spec.specs.Findings.{Whole}
use Rattle.ledger_machine.specs.Sound.{Sound}
use Rattle.ledger_machine.specs.State.{form_in}
use Rattle.missing_walk.specs.declared.Found.{Found}
use Rattle.missing_walk.specs.declared.fault.SearchFault.{SearchFault}
use Rattle.missing_walk.specs.declared.fault.SearchFault.TheVariants as search
use Rattle.missing_walk.specs.Ends.{IsClean}
use Rattle.missing_walk.specs.Founds.{IsFound}
use Rattle.missing_walk.specs.Passes.{HasMarkedRoots}
use Rattle.missing_walk.specs.Sees.{Finds}

module _ (half : Half) (s : State) (a : ℕ) (c : Command) (reply : Reply) (used : List Held) where
  -- a state carries itself
  self_told : AreTold s → WhileTurning s.turning s.turning (AreShaded s × Tells s s (own_hashes half s a c reply))
  self_told told = at s.turning s.turning told
    where
      at : (o p : Option ℕ) → IfSome o (λ v. AreShaded s)
          → WhileTurning o p (AreShaded s × Tells s s (own_hashes half s a c reply))
      at None p told = tt
      at (Some v) None told = tt
      at (Some v) (Some w) told = (told, record { stays = λ h among. among; only = λ h among. inl among })

  -- what leaves the state is a step where its row is
  pub step_self : AreTold s → Outcomes half s a c reply used s → UsesNodes reply used → Step half s a c reply used s
  step_self told o uses = step_told half s s a c reply used (record { outcome = o; uses = uses }) (self_told told)

-- a fault or want of memory, at any command that may be refused
pub step_refused : (half : Half) (s : State) (a : ℕ) (c : Command) (why : BackFault) → MayBeRefused c → AreTold s
    → Step half s a c (read_refusal why) [] s
step_refused half s a c back.Fault may told =
    step_self half s a c says.Fault [] told (may, record { forms = []; own = λ form among. absurd (none form among); same = refl }) refl
  where
    none : (form : Bytes) → Contains [] form → ⊥
    none form among = omega (arith, among.1)
step_refused half s a c back.Memory may told =
    step_self half s a c says.Memory [] told (may, record { forms = []; own = λ form among. absurd (none form among); same = refl }) refl
  where
    none : (form : Bytes) → Contains [] form → ⊥
    none form among = omega (arith, among.1)

-- a count that rose later has risen
pub rose_later : (before mid now : ℕ) → before ≤ mid → Rose mid now → Rose before now
rose_later before mid now le (inl less) = inl (omega (arith, le, less))
rose_later before mid now le (inr top) = inr top

-- a refusal leaves the count of slices
refused_counts : (c : Command) (why : BackFault) (n n' : ℕ) → n' ≡ n → CountsFrom c (read_refusal why) n n'
refused_counts command.Begin back.Fault n n' same = same
refused_counts command.Begin back.Memory n n' same = same
refused_counts c why n n' same = same

module _ (half : Half) (told : Bool) (a : ℕ) (c : Command) where
  -- a command that was refused where the state is kept
  pub serves_unread : (Cause : Type 0) (d d' : Desk) (why : BackFault) → MayBeRefused c → KeepsState told d d' → d'.slices ≡ d.slices
      → (IsTrue told → AreTold d.state) → (why ≡ back.Fault → Cause) → Serves half told Cause d a c (read_refusal why) [] d'
  serves_unread Cause d d' why may keeps same roots cause = record {
    step = λ t. subst (λ (x : State). Step half d.state a c (read_refusal why) [] x) (sym (keeps.same t))
        (step_refused half d.state a c why may (roots t));
    told = λ t. subst AreTold (sym (keeps.same t)) (roots t);
    leaves = record {
      refused = λ _. keeps.rest;
      grows = grows_here d d' keeps.rest keeps.later;
      slices = refused_counts c why d.slices d'.slices same;
      fault = λ e. cause (by why e);
    };
  }
    where
      by : (x : BackFault) → read_refusal x ≡ says.Fault → x ≡ back.Fault
      by back.Fault e = refl
      by back.Memory e = absurd (let no : says.Memory ≡ says.Fault = e in cc)

  -- one that only read, and was refused
  pub serves_refused : (Cause : Type 0) (d d' : Desk) (why : BackFault) → MayBeRefused c → OnlyReads told d d'
      → (IsTrue told → AreTold d.state) → (why ≡ back.Fault → Cause) → Serves half told Cause d a c (read_refusal why) [] d'
  serves_refused Cause d d' why may reads roots cause =
      serves_unread Cause d d' why may (reads_keep told d d' reads) reads.slices roots cause

  -- one that keeps the state before it answers
  pub serves_after : (d mid d' : Desk) (reply : Reply) (used : List Held) → KeepsState told d mid → mid.slices ≡ d.slices
      → Serves half told (Rose mid.faults d'.faults) mid a c reply used d' → Serves half told (Rose d.faults d'.faults) d a c reply used d'
  serves_after d mid d' reply used keeps same serves = record {
    step = λ t. subst (λ (x : State). Step half x a c reply used d'.state) (keeps.same t) (serves.step t);
    told = serves.told;
    leaves = record {
      refused = λ is. rest_then d.state mid.state d'.state keeps.rest (serves.leaves.refused is);
      grows = grows_on d mid keeps.rest keeps.later d' serves.leaves.grows;
      slices = subst (λ (n : ℕ). CountsFrom c reply n d'.slices) same serves.leaves.slices;
      fault = λ e. rose_later d.faults mid.faults d'.faults keeps.later (serves.leaves.fault e);
    };
  }

  -- for any wider cause
  pub serves_for : (P Q : Type 0) (d d' : Desk) (reply : Reply) (used : List Held) → (P → Q) → Serves half told P d a c reply used d'
      → Serves half told Q d a c reply used d'
  serves_for P Q d d' reply used wider serves = record {
    step = serves.step;
    told = serves.told;
    leaves = record {
      refused = serves.leaves.refused;
      grows = serves.leaves.grows;
      slices = serves.leaves.slices;
      fault = λ e. wider (serves.leaves.fault e);
    };
  }

  -- what is done in one go is a step with what it carries
  pub steps_by : (d d' : Desk) (reply : Reply) (used : List Held) → Acts half told d a c reply used d'
      → (IsTrue told → AreTold d'.state × Carried half d.state a c reply d'.state) → Steps half told d a c reply used d'
  steps_by d d' reply used acts carries = record {
    serves = record {
      step = λ t. step_told half d.state d'.state a c reply used (acts.does t) (carries t).1;
      told = λ t. (carries t).0;
      leaves = acts.leaves;
    };
    copies = acts.copies;
    asks = acts.asks;
  }

  -- so it is where a rotation neither begins nor ends, and is told the command's own root
  pub steps_steady : (d d' : Desk) (reply : Reply) (used : List Held) → IsSteady c → Acts half told d a c reply used d'
      → (IsTrue told → Tells d.state d'.state (own_hashes half d.state a c reply)) → (IsTrue told → TellsRoot d.state c reply d'.state)
      → (IsTrue told → AreTold d.state) → Steps half told d a c reply used d'
  steps_steady d d' reply used steady acts tells names roots =
      steps_by d d' reply used acts (λ t. told_on half d.state d'.state a c reply used steady (acts.does t) (tells t) (names t) (roots t))

-- the commands of sessions neither begin nor end a rotation
pub sessions_steady : (c : Command) → IsOfSessions c → IsSteady c
sessions_steady command.Begin open_ = absurd open_
sessions_steady command.Swap open_ = absurd open_
sessions_steady c open_ = tt

pub no_fault : back.Memory ≡ back.Fault → ⊥
no_fault e = cc

-- ---- sections
-- a command that is no check asks for none
pub idle_asks : (c : Command) (o : Option Hunt) (now gets gets' : ℕ) → IsNoCheck c → AsksFew c o now gets gets'
idle_asks (command.Check t) o now gets gets' other = absurd other
idle_asks c o now gets gets' other = tt

pub idle_search : (half : Half) (s : State) (c : Command) (reply : Reply) (o : Option Hunt) (m : Marks) (gets : ℕ) (m' : Marks) (gets' : ℕ)
    → IsNoCheck c → SearchesBy half s c reply o m gets m' gets'
idle_search half s (command.Check t) reply o m gets m' gets' other = absurd other
idle_search half s c reply o m gets m' gets' other = tt

-- what a command may count on it may behind what keeps the state
may_behind : (half : Half) (told : Bool) (c : Command) (d m : Desk) → MayServe half told d c → KeepsState told d m → MayServe half told m c
may_behind half told c d m may keeps = record {
  in_range = may.in_range;
  sound = λ t. subst (Sound half) (sym (keeps.same t)) (may.sound t);
  told = λ t. subst AreTold (sym (keeps.same t)) (may.told t);
  room = subst (λ (n : ℕ). n < 2 ^ 64 - 1) (sym (ap (λ (s : State). s.epoch) keeps.rest)) may.room;
}

pub turn_may : (half : Half) (told : Bool) (c : Command) (part : Part) (d m : Desk) (result : Result Left BackFault) → MayServe half told
    d c
    → SlicesFirst told c part d result m → MayServe half told m c
turn_may half told c part d m result may first = may_behind half told c d m may first.keeps

pub check_may : (half : Half) (told : Bool) (c : Command) (d m : Desk) → MayServe half told d c → OnlyReads told d m → MayServe half told
    m c
check_may half told c d m may reads = may_behind half told c d m may (reads_keep told d m reads)

-- ---- a section of a command that is no check
module _ (half : Half) (told : Bool) (a : ℕ) (c : Command) (part : Part) (x : Searches) (d m : Desk) (result : Result Left BackFault)
    (other : IsNoCheck c) (all : d.state.nodes ≡ merged d.written d.archived) (may : MayServe half told d c)
    (kept : AreKept half told d.state x) (first : SlicesFirst told c part d result m) where
  turn_shares : (gets : ℕ) → Shares half told d.state a c part x d.gets x gets
  turn_shares gets = record {
    kept = kept;
    generation = refl;
    others = others_same a x x refl;
    few = λ cut. idle_asks c (hunt_of x.hunts.items a) x.marks.generation d.gets gets other;
  }

  turn_few : IsTrue told → CopiesFew c d m
  turn_few t = inr (subst (CopiesAtMost most_copied (finite.get d.state.nodes) (finite.get d.written))
      (sym (behind_same d m (ap (λ (s : State). s.epoch) first.keeps.rest))) (first.few t))

  -- a slice of a swap that left something
  pub turn_more : result ≡ Ok left.More → LeavesMore half told d a c part x x m
  turn_more is =
      let slice : IsSlice c part d m = first.more is in
      record {
        more = subst (λ (k : Command). IsSliced half told a k part d x m x) (sym slice.swap)
            (subst (λ (k : Command). IsSlice k part d m) slice.swap slice, refl);
        shares = turn_shares m.gets;
        told = λ t. subst AreTold (sym (first.keeps.same t)) (may.told t);
        grows = grows_here d m first.keeps.rest first.keeps.later;
        few = λ t cut. turn_few t;
        still = first.keeps.rest;
        same = first.keeps.same;
      }

  -- the step, behind the slice where there was one
  pub turn_done : (reply : Reply) (used : List Held) (d' : Desk) → result ≡ Ok left.Done → Steps half told m a c reply used d'
      → Answers half told (Rose d.faults d'.faults) d a c part x reply used x d'
  turn_done reply used d' is steps = record {
    serves = serves_after half told a c d m d' reply used first.keeps (first.slices (λ more. cc (is, more))) steps.serves;
    shares = turn_shares d'.gets;
    search = λ t. idle_search half d.state c reply (hunt_of x.hunts.items a) x.marks d.gets x.marks d'.gets other;
    few = λ t cut. copied_few c d m d' all (ap (λ (s : State). s.epoch) first.keeps.rest) (first.few t) first.none
        (λ swap. first.done is swap cut) (steps.copies t);
    idle = λ _. refl;
  }

  -- a slice that was refused
  pub turn_refused : (why : BackFault) → result ≡ Err why
      → Answers half told (Rose d.faults m.faults) d a c part x (read_refusal why) [] x m
  turn_refused why is =
      let by = subst (λ (r : Result Left BackFault). IfErr r (λ e. (c ≡ command.Swap) × (e ≡ back.Fault → Rose d.faults m.faults))) is
      first.err in
      record {
        serves = serves_unread half told a c (Rose d.faults m.faults) d m why (subst MayBeRefused (sym by.0) tt) first.keeps
            (first.slices (λ more. cc (is, more))) may.told by.1;
        shares = turn_shares m.gets;
        search = λ t. idle_search half d.state c (read_refusal why) (hunt_of x.hunts.items a) x.marks d.gets x.marks m.gets other;
        few = λ t cut. turn_few t;
        idle = λ _. refl;
      }

-- ---- a section of a check
module _ (half : Half) (told : Bool) (a : ℕ) (t : Hash) (part : Part) (x x' : Searches) (d m : Desk) (result : Result Sought SearchFault)
    (all : d.state.nodes ≡ merged d.written d.archived) (roots : IsTrue told → AreTold d.state)
    (seeks : Seeks half told d a t part x result x' m) where
  seek_few : IsTrue told → CopiesFew (command.Check t) d m
  seek_few tells = inr (none_copied d m all (seeks.reads.copies tells))

  -- a slice of the search that left something
  seek_more : result ≡ Ok sought.More → LeavesMore half told d a (command.Check t) part x x' m
  seek_more is =
      let reads = reads_keep told d m seeks.reads in
      record {
        more = (
          subst (λ (r : Result Sought SearchFault). IfOk r (IsSought half told m.state t part)) is seeks.found,
          seeks.reads.slices,
          λ tells. subst (λ (r : Result Sought SearchFault). IfOk r (LeavesSearch half d.state t (hunt_of x.hunts.items a) x.marks
              (hunt_of x'.hunts.items a) x'.marks)) is (seeks.leaves tells),
        );
        shares = seeks.shares;
        told = λ tells. subst AreTold (sym (reads.same tells)) (roots tells);
        grows = grows_here d m reads.rest reads.later;
        few = λ tells cut. seek_few tells;
        still = reads.rest;
        same = reads.same;
      }

  -- the answer by what was found
  seek_done : (found : Option Found) (reply : Reply) (used : List Held) (d' : Desk) → result ≡ Ok (sought.Ended found)
      → Steps half told m a (command.Check t) reply used d'
      → Answers half told (Rose d.faults d'.faults) d a (command.Check t) part x reply used x' d'
  seek_done found reply used d' is steps = record {
    serves = serves_after half told a (command.Check t) d m d' reply used (reads_keep told d m seeks.reads) seeks.reads.slices steps.serves;
    shares = subst (λ (n : ℕ). Shares half told d.state a (command.Check t) part x d.gets x' n) (sym steps.asks) seeks.shares;
    search = λ tells. record {
      roots = λ opened answered whole. marked tells found (
          subst (λ (r : Result Sought SearchFault). IfOk r (LeavesSearch half d.state t (hunt_of x.hunts.items a) x.marks
          (hunt_of x'.hunts.items a) x'.marks)) is (seeks.leaves tells))
          (subst (λ (r : Result Sought SearchFault). IfOk r (IsSought half told m.state t part)) is seeks.found
          (subst (λ (s : State). IsOpen s t) (sym (seeks.reads.state tells)) opened)) whole;
      few = λ unbegun before. subst (λ (n : ℕ). n ≤ d.gets + 2) (sym steps.asks) (seeks.first tells unbegun before);
    };
    few = λ tells cut. inr (none_copied d d' all (steps.copies tells ∙ seeks.reads.copies tells));
    idle = λ other. absurd other;
  }
    where
      marked : IsTrue told → (o : Option Found) → IfSome o (λ f. IsClean f → HasMarkedRoots (form_in d.state) t x'.marks)
          → IsSomeAnd o (λ f. IsFound f × (IsTrue told → Finds half (form_in m.state) t f)) → Whole half (form_in d.state) t
          → HasMarkedRoots (form_in d.state) t x'.marks
      marked tells None leaves known whole = absurd known
      marked tells (Some f) leaves known whole =
          leaves (clean half (form_in d.state) t f
          (subst (λ (s : State). Finds half (form_in s) t f) (seeks.reads.state tells) (known.1 tells)) whole)

  -- a search that was refused
  seek_refused : (why : SearchFault) → result ≡ Err why
      → Answers half told (Rose d.faults m.faults) d a (command.Check t) part x (search_refusal why) [] x' m
  seek_refused why is = record {
    serves = by why (subst (λ (r : Result Sought SearchFault). IfErr r (λ e. e ≡ search.Fault → Rose d.faults m.faults)) is seeks.fault);
    shares = seeks.shares;
    search = λ tells. record {
      roots = λ opened answered whole. absurd (answered (refusal why));
      few = seeks.first tells;
    };
    few = λ tells cut. seek_few tells;
    idle = λ other. absurd other;
  }
    where
      refusal : (e : SearchFault) → IsRefusal (search_refusal e)
      refusal search.Fault = tt
      refusal search.Memory = tt

      by : (e : SearchFault) → (e ≡ search.Fault → Rose d.faults m.faults)
          → Serves half told (Rose d.faults m.faults) d a (command.Check t) (search_refusal e) [] m
      by search.Fault cause =
          serves_refused half told a (command.Check t) (Rose d.faults m.faults) d m back.Fault tt seeks.reads roots (λ _. cause refl)
      by search.Memory cause =
          serves_refused half told a (command.Check t) (Rose d.faults m.faults) d m back.Memory tt seeks.reads roots
          (λ e. absurd (no_fault e))

-- the same of a command that is a check
module _ (half : Half) (told : Bool) (a : ℕ) (c : Command) (t : Hash) (is : c ≡ command.Check t) (part : Part) (x x' : Searches) (d m :
    Desk)
    (result : Result Sought SearchFault) (all : d.state.nodes ≡ merged d.written d.archived) (roots : IsTrue told → AreTold d.state)
    (seeks : Seeks half told d a t part x result x' m) where
  pub check_more : result ≡ Ok sought.More → LeavesMore half told d a c part x x' m
  check_more more =
      subst (λ (k : Command). LeavesMore half told d a k part x x' m) (sym is) (seek_more half told a t part x x' d m result all roots
      seeks more)

  pub check_done : (found : Option Found) (reply : Reply) (used : List Held) (d' : Desk) → result ≡ Ok (sought.Ended found)
      → Steps half told m a c reply used d' → Answers half told (Rose d.faults d'.faults) d a c part x reply used x' d'
  check_done found reply used d' ended steps =
      subst (λ (k : Command). Answers half told (Rose d.faults d'.faults) d a k part x reply used x' d') (sym is)
      (seek_done half told a t part x x' d m result all roots seeks found reply used d' ended
      (subst (λ (k : Command). Steps half told m a k reply used d') is steps))

  pub check_refused : (why : SearchFault) → result ≡ Err why
      → Answers half told (Rose d.faults m.faults) d a c part x (search_refusal why) [] x' m
  check_refused why refused =
      subst (λ (k : Command). Answers half told (Rose d.faults m.faults) d a k part x (search_refusal why) [] x' m) (sym is)
      (seek_refused half told a t part x x' d m result all roots seeks why refused)
