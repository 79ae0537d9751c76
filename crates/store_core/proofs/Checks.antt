-- What the core keeps of its searches behind each entry and each slice.
use Rattle.std.proofs.Common.{◌≡◌, ◌⊎◌, ⊎_elim, ℕ, suc, ◌+◌, ◌≤◌, Bool, IsTrue, List, length, Option}
use Rattle.std.proofs.Common.{None, Some, sym, ap, ◌∙◌, subst, arith}
use Rattle.std.specs.Prelude.{slice_set}
use Rattle.std.proofs.lemmas.List.{length-set, set-set}
use Rattle.ledger_spec.specs.Bytes.{Bytes, Hash, Half, Lookup}
use Rattle.ledger_spec.specs.Forms.{Held}
use Rattle.ledger_spec.proofs.shared.ReachLaws.{Grows}
use Rattle.full_below.specs.declared.marks.Marks.{Marks}
use Rattle.tree_cache.specs.declared.cache.TreeCache.{TreeCache}
use Rattle.ledger_searches.specs.declared.searches.Searches.{Searches}
use Rattle.ledger_searches.specs.declared.hunt.Hunt.{Hunt}
use Rattle.ledger_searches.specs.Hunting.{hunt_of}
use Rattle.ledger_searches.specs.Sharing.{IsPaired, AreTrueOf, Forgets, IsEmpty, LeavesOthers}
use Rattle.ledger_searches.proofs.shared.Running.{true_forgot, true_of_nothing, true_on, true_turned}
use Rattle.ledger_machine.specs.declared.commands.Command.{Command}
use Rattle.ledger_machine.specs.declared.commands.Command.TheVariants as command
use Rattle.ledger_machine.specs.declared.journal.Entry.{Entry}
use Rattle.ledger_machine.specs.declared.commands.SwapReply.TheVariants as swaps
use Rattle.ledger_machine.specs.declared.commands.Reply.{Reply}
use Rattle.ledger_machine.specs.declared.commands.Reply.TheVariants as says
use Rattle.ledger_machine.specs.State.{State, form_in}
use Rattle.ledger_machine.specs.Steps.{Step, Swaps, Refused, Outcomes}
use Rattle.ledger_laws.proofs.shared.Stored.{Goes, on, begun, swapped}
use Rattle.ledger_laws.proofs.shared.Going.{row_goes}
use Rattle.ledger_laws.proofs.shared.SoundForms.{with_forms_grow}
use Rattle.ledger_laws.proofs.shared.SoundSteps.{outcome_cases}
use Rattle.core_machine.specs.Commands.{IsNoCheck}
use Rattle.core_machine.specs.Checking.{AreKept, ChecksByMarks}
use Rattle.core_machine.specs.Checking.{KeepsSearches, LeavesMarks, SearchesBy, TurnsBy}

-- ---- over another state that holds the same
module _ (half : Half) (told : Bool) (s s' : State) where
  pub kept_told : (x : Searches) → (IsTrue told → form_in s' ≡ form_in s) → AreKept half told s x → AreKept half told s' x
  kept_told x same k = record {
    paired = k.paired;
    rule = λ tells. subst (λ (n : Lookup). AreTrueOf half n x) (sym (same tells)) (k.rule tells);
  }

-- ---- the core
-- nothing goes but by a swap that is answered
abbrev IsNoSwapped : Reply → Type 0
IsNoSwapped (says.Swap (swaps.Swapped epoch)) = ⊥
IsNoSwapped _ = Unit {0}

module _ (half : Half) (s s' : State) (a : ℕ) (reply : Reply) (used : List Held) (none : IsNoSwapped reply) where
  refused_grows : (c : Command) → Refused half s a c s' → Grows (form_in s) (form_in s')
  refused_grows c r = λ h form e. ap (λ (x : State). form_in x h) r.same ∙ with_forms_grow half s r.forms h form e

  idle_grows : (o : Option ℕ) → Swaps s o reply s' → Grows (form_in s) (form_in s')
  idle_grows None g = λ h form e. ap (λ (x : State). form_in x h) g.after ∙ e
  idle_grows (Some v) g = absurd (subst IsNoSwapped g.0 none)

  goes_grows : (c : Command) (own : List Bytes) → (c ≡ command.Swap → ⊥) → Goes half c own s s' → Grows (form_in s) (form_in s')
  goes_grows c own other (on g) = g.stores.grows
  goes_grows c own other (begun g shades) = g.grows
  goes_grows c own other (swapped is w) = absurd (other is)

  outcome_grows : (c : Command) → Outcomes half s a c reply used s' → Grows (form_in s) (form_in s')
  outcome_grows command.Swap o =
      ⊎_elim (λ r. refused_grows command.Swap r) (λ g. idle_grows s.turning g) (outcome_cases half s a command.Swap reply used s' o)
  outcome_grows c o = goes_grows c _ (λ is. cc) (row_goes half s a c reply used s' o)

-- what searches share stays true as the machine steps, where a swap turns it
module _ (half : Half) (told : Bool) (s s' : State) (a : ℕ) (c : Command) (used : List Held) (x' x'' : Searches) where
  forgot_on : Forgets a x' x'' → (IsTrue told → Grows (form_in s) (form_in s')) → AreKept half told s x' → AreKept half told s' x''
  forgot_on forgets grows k = record {
    paired = record {
      one = ap (λ (d : TreeCache). d.generation) forgets.cache ∙ k.paired.one ∙ sym (ap (λ (m : Marks). m.generation) forgets.marks);
      room = ap (λ (m : Marks). m.entries.cap) forgets.marks ∙ k.paired.room;
      slots = ap length forgets.hunts ∙ length-set x'.hunts.items a None ∙ k.paired.slots;
    };
    rule = λ tells. true_forgot half (form_in s') a x' x'' forgets (true_on half (form_in s) (form_in s') x' (grows tells) (k.rule tells));
  }

  rule_on : (reply : Reply) → TurnsBy reply a x' x'' → (IsTrue told → Step half s a c reply used s') → AreKept half told s x'
      → AreKept half told s' x''
  rule_on (says.Swap (swaps.Swapped epoch)) turns step k = record {
    paired = turns.turns.paired;
    rule = λ tells. true_turned half (form_in s) (form_in s') turns.between x'' turns.turns
        (true_forgot half (form_in s) a x' turns.between turns.forgets (k.rule tells));
  }
  rule_on reply turns step k =
      forgot_on turns (λ tells. outcome_grows half s s' a reply used tt c (step tells).outcome) k

  generation_on : (reply : Reply) → TurnsBy reply a x' x'' → x''.marks.generation ≤ x'.marks.generation + 1
  generation_on (says.Swap (swaps.Swapped epoch)) turns =
      omega (arith, turns.turns.generation, ap (λ (m : Marks). m.generation) turns.forgets.marks)
  generation_on reply turns = omega (arith, ap (λ (m : Marks). m.generation) turns.marks)

  pub keeps_on : (reply : Reply) (journal journal' : List Entry) (x : Searches) → TurnsBy reply a x' x''
      → (IsTrue told → Step half s a c reply used s') → AreKept half told s x' → x'.marks.generation ≡ x.marks.generation
      → x.marks.generation ≤ length journal → length journal' ≡ suc (length journal) → KeepsSearches half told s' journal' x''
  keeps_on reply journal journal' x turns step k same young more = record {
    kept = rule_on reply turns step k;
    young = omega (arith, generation_on reply turns, same, young, more);
  }

  -- what an entry leaves of the marks
  pub marks_left : (reply : Reply) (x : Searches) → TurnsBy reply a x' x'' → x'.marks.generation ≡ x.marks.generation
      → (IsNoCheck c → x' ≡ x) → LeavesMarks c reply x.marks x''.marks
  marks_left (says.Swap (swaps.Swapped epoch)) x turns same idle = record {
    turned = λ _. (
      omega (arith, turns.turns.generation, ap (λ (m : Marks). m.generation) turns.forgets.marks, same),
      turns.turns.marks,
    );
    stays = λ none. absurd (none tt);
    idle = λ none other. absurd (none tt);
  }
  marks_left reply x turns same idle = record {
    turned = λ is. absurd is;
    stays = λ none. ap (λ (m : Marks). m.generation) turns.marks ∙ same;
    idle = λ none other. turns.marks ∙ ap (λ (y : Searches). y.marks) (idle other);
  }

  -- the searches of the other actors are as they were, and none of this one is kept
  pub hunts_on : (reply : Reply) (x : Searches) → TurnsBy reply a x' x'' → LeavesOthers a x x'
      → x''.hunts.items ≡ slice_set x.hunts.items a None
  hunts_on (says.Swap (swaps.Swapped epoch)) x turns others =
      turns.turns.hunts ∙ turns.forgets.hunts ∙ ap (λ (hs : List (Option Hunt)). slice_set hs a None) others
      ∙ set-set x.hunts.items a (hunt_of x'.hunts.items a) None
  hunts_on reply x turns others =
      turns.hunts ∙ ap (λ (hs : List (Option Hunt)). slice_set hs a None) others ∙ set-set x.hunts.items a (hunt_of x'.hunts.items a) None

-- behind the end of its search a check has left the same marks
module _ (half : Half) (s : State) (a : ℕ) (x' x'' : Searches) where
  no_swap : (t : Hash) (epoch : ℕ) (s' : State) (used : List Held) → Step half s a (command.Check t) (says.Swap (swaps.Swapped epoch))
      used s' → ⊥
  no_swap t epoch s' used step = cc (step.outcome.says)

  marks_on : (t : Hash) (reply : Reply) (s' : State) (used : List Held) → Step half s a (command.Check t) reply used s'
      → TurnsBy reply a x' x'' → x'.marks ≡ x''.marks
  marks_on t (says.Swap (swaps.Swapped epoch)) s' used step turns = absurd (no_swap t epoch s' used step)
  marks_on t reply s' used step turns = sym turns.marks

  pub search_on : (c : Command) (reply : Reply) (s' : State) (used : List Held) (o : Option Hunt) (m : Marks) (gets gets' : ℕ)
      → Step half s a c reply used s' → TurnsBy reply a x' x''
      → SearchesBy half s c reply o m gets x'.marks gets' → SearchesBy half s c reply o m gets x''.marks gets'
  search_on (command.Check t) reply s' used o m gets gets' step turns by =
      subst (λ (y : Marks). ChecksByMarks half s t reply o m gets y gets') (marks_on t reply s' used step turns) by
  search_on c reply s' used o m gets gets' step turns by = tt

-- a slice leaves it true, in the same generation
pub keeps_sliced : (half : Half) (told : Bool) (s s' : State) (journal : List Entry) (x x' : Searches) → AreKept half told s x'
    → x'.marks.generation ≡ x.marks.generation → (IsTrue told → s' ≡ s) → x.marks.generation ≤ length journal
    → KeepsSearches half told s' journal x'
keeps_sliced half told s s' journal x x' k same still young = record {
  kept = kept_told half told s s' x' (λ tells. ap (λ (y : State). form_in y) (still tells)) k;
  young = omega (arith, same, young);
}

pub keeps_new : (half : Half) (told : Bool) (s : State) (journal : List Entry) (x : Searches) → IsPaired x → IsEmpty x
    → x.marks.generation ≡ 0 → KeepsSearches half told s journal x
keeps_new half told s journal x paired empty first = record {
  kept = record { paired = paired; rule = λ tells. true_of_nothing half (form_in s) x empty };
  young = omega (arith, first);
}
