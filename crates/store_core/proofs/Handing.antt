-- What an entry more says to the calls that lead to it.
use Rattle.std.proofs.Common.{◌≡◌, ℕ, Bool, List, [], ◌∷◌, ◌++◌, Option, None, Some, Result, Ok, Err, refl, sym, ap, ◌∙◌, subst}
use Rattle.std.specs.Prelude.{MatchOption}
use Rattle.std.specs.declared.sync.Arc.{Arc}
use Rattle.std.specs.declared.alloc.Global.{Global}
use Rattle.ledger_spec.specs.Bytes.{Half}
use Rattle.ledger_spec.specs.Reads.{Outcome, follow}
use Rattle.shamap_node.specs.declared.Node.{Node}
use Rattle.ledger_machine.specs.declared.journal.Entry.{Entry}
use Rattle.path_proof.specs.Paths.{held_nodes}
use Rattle.path_proof.specs.declared.Outcome.{Outcome as Outcome'}
use Rattle.path_proof.specs.declared.answer.Answer.{Answer}
use Rattle.path_proof.specs.declared.answer.ReadFault.{ReadFault}
use Rattle.path_proof.specs.declared.answer.ReadFault.TheVariants as faults
use Rattle.store_core.specs.Jobs.{HandsFault, IsTaken, TakesIn}
use Rattle.store_core.specs.Reads.{IsJudged, IsUnsaid}
use Rattle.store_core.specs.Journal.{CoreView, AdvancesFor}
use Rattle.store_core.specs.declared.jobs.Handed.{Handed}
use Rattle.store_core.specs.declared.jobs.ReadJob.{ReadJob}

-- for any wider cause
pub advances_for : (half : Half) (told : Bool) (P Q : Type 0) (old : CoreView) (a : ℕ) (new : CoreView) → (P → Q)
    → AdvancesFor half told P old a new → AdvancesFor half told Q old a new
advances_for half told P Q old a new wider v = record {
  entry = v.entry;
  line = v.line;
  next = v.next;
  number = v.number;
  actor = v.actor;
  journal = v.journal;
  records = v.records;
  lines = v.lines;
  interval = v.interval;
  opened = v.opened;
  missed = v.missed;
  failed = v.failed;
  later = v.later;
  cause = λ e. wider (v.cause e);
  refused = v.refused;
  step = v.step;
  search = v.search;
  hunts = v.hunts;
  marks = v.marks;
  slices = v.slices;
}

some_handed : {x y : Handed} → Some x ≡ Some y → x ≡ y
some_handed e = cc

-- no fault is handed in where nothing is
pub none_handed : HandsFault None → ⊥
none_handed h = let no : None ≡ Some h.0 = h.1 in cc

-- the fault that is handed in with a job
pub handed_fault : (handed : Handed) → HandsFault (Some handed) → handed.got ≡ Err faults.Fault
handed_fault handed h = ap (λ (x : Handed). x.got) (some_handed h.1) ∙ h.2

-- what was judged before it is handed in
module _ (half : Half) (job : ReadJob) (got : Result Answer ReadFault) where
  judged_same : (h : Handed) → IsJudged got h.got → h.got ≡ Err faults.Fault → got ≡ Err faults.Fault
  judged_same h by e = at got by
    where
      at : (r : Result Answer ReadFault) → IsJudged r h.got → r ≡ Err faults.Fault
      at (Ok a) by = absurd (let no : Ok by.0 ≡ Err faults.Fault = sym by.1 ∙ e in cc)
      at (Err why) by = sym by ∙ e

  pub judged_fault : (o : Option Handed) → MatchOption o (IsUnsaid half job got) (λ h. (h.job ≡ job) × IsJudged got h.got)
      → HandsFault o → got ≡ Err faults.Fault
  judged_fault None by h = absurd (none_handed h)
  judged_fault (Some handed) by h = judged_same handed by.1 (handed_fault handed h)

  taken_same : (h : Handed) (old new : List Entry) → h.job ≡ job → IsJudged got h.got → TakesIn half h.job h.got old new
      → TakesIn half job got old new
  taken_same h old new same by takes =
      at got by (subst (λ (j : ReadJob). TakesIn half j h.got old new) same takes)
    where
      at : (r : Result Answer ReadFault) → IsJudged r h.got → TakesIn half job h.got old new → TakesIn half job r old new
      at (Ok a) by takes = subst (λ (us : List (Arc Node Global)). (o : Outcome) → follow half job.kind job.root job.key (held_nodes us) ≡
          Some o
          → (e : Entry) × (new ≡ old ++ e ∷ []) × IsTaken us o e.reply e.used.items) by.2
          (subst (λ (r : Result Answer ReadFault). TakesIn half job r old new) by.1 takes)
      at (Err why) by takes = tt

  pub judged_takes : (asked : Option ReadJob) (o : Option Handed) (old new : List Entry) → asked ≡ Some job
      → MatchOption o (IsUnsaid half job got) (λ h. (h.job ≡ job) × IsJudged got h.got)
      → ((h : Handed) → o ≡ Some h → asked ≡ Some h.job → TakesIn half h.job h.got old new) → TakesIn half job got old new
  judged_takes asked None old new is by takes = at got by
    where
      at : (r : Result Answer ReadFault) → IsUnsaid half job r → TakesIn half job r old new
      at (Ok a) unsaid = λ o says. absurd (let no : None ≡ Some o = sym unsaid ∙ says in cc)
      at (Err why) unsaid = tt
  judged_takes asked (Some h) old new is by takes = taken_same h old new by.0 by.1 (takes h refl (is ∙ ap Some (sym by.0)))

-- what `follow` accepts is handed in by its outcome
pub judged_by : (got : Result Answer ReadFault) (a : Answer) (outcome : Outcome') (h : Handed) (job : ReadJob) → got ≡ Ok a
    → h ≡ record { job = job; got = Ok (record { outcome = outcome; used = a.used }) } → (h.job ≡ job) × IsJudged got h.got
judged_by got a outcome h job is same = (
  ap (λ (x : Handed). x.job) same,
  subst (λ (r : Result Answer ReadFault). IsJudged r h.got) (sym is)
      (record { outcome = outcome; used = a.used }, ap (λ (x : Handed). x.got) same, refl),
)
