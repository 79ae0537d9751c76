-- The read that a line asks for, and what is done for one that a reader hands in.
use Rattle.std.proofs.Common.{◌≡◌, ◌≢◌, inl, inr, ℕ, Bool, true, false, IsTrue, List, [], ◌∷◌, Option, None, Some, IfSome, IsSome, refl}
use Rattle.std.proofs.Common.{sym, ap}
use Rattle.std.proofs.Common.{◌∙◌, subst, arith, ◌++◌, ◌||◌, if◌then◌else◌, Result, Ok, Err}
use Rattle.std.specs.Prelude.{◌==◌}
use Rattle.std.proofs.lemmas.Bool.{false≢true}
use Rattle.std.proofs.lemmas.Bool.Decides.{nat_tests}
use Rattle.std.specs.Option.{option_map, option_and_then}
use Rattle.std.specs.declared.sync.Arc.{Arc}
use Rattle.std.specs.declared.alloc.Global.{Global}
use Rattle.shamap_node.specs.declared.Node.{Node}
use Rattle.ledger_spec.specs.declared.Kind.{Kind}
use Rattle.ledger_spec.specs.Bytes.{Hash, Half}
use Rattle.ledger_spec.specs.Maps.{ForActor}
use Rattle.ledger_spec.specs.Reads.{Outcome, follow}
use Rattle.path_proof.specs.Paths.{held_nodes}
use Rattle.path_proof.specs.declared.answer.Answer.{Answer}
use Rattle.path_proof.specs.declared.answer.ReadFault.{ReadFault}
use Rattle.ledger_machine.specs.declared.commands.Command.{Command}
use Rattle.ledger_machine.specs.declared.commands.Command.TheVariants as command
use Rattle.ledger_machine.specs.declared.commands.Line.{Line}
use Rattle.ledger_machine.specs.declared.journal.Entry.{Entry}
use Rattle.ledger_machine.specs.declared.commands.Reply.{Reply}
use Rattle.ledger_machine.specs.declared.commands.Reply.TheVariants as says
use Rattle.ledger_machine.specs.Reading.{view_root, outcome_of}
use Rattle.ledger_machine.specs.Runs.{is_answered, next_line, IsDone, IsBlocked}
use Rattle.ledger_machine.specs.State.{State}
use Rattle.ledger_machine.specs.Commands.{MayBeRefused}
use Rattle.node_backend.specs.declared.back.BackFault.TheVariants as back
use Rattle.core_machine.specs.Desks.{Desk}
use Rattle.core_machine.specs.Commands.{IsQuiet}
use Rattle.store_core.specs.Halls.{AreViews, root_by}
use Rattle.core_machine.specs.Serving.{Serves}
use Rattle.store_core.specs.Jobs.{job_for, job_in, free_line, if_free, IsTaken, IfSays, TakesIn}
use Rattle.store_core.specs.Reads.{IsReplied}
use Rattle.core_machine.specs.Telling.{AreTold}
use Rattle.store_core.specs.declared.jobs.ReadJob.{ReadJob}
use Rattle.store_core.specs.declared.jobs.View.{View}
use Rattle.store_core.proofs.Pinning.{roots_same}
use Rattle.store_core.proofs.Waiting.{next_left, blocked_at}
use Rattle.core_machine.proofs.shared.Serving.{serves_refused}
use Rattle.store_core.proofs.Serving.{step_got, reads_self}

-- the jobs of roots that agree agree
job_same : (f g : Kind → ℕ × ℕ → Option Hash) (a n : ℕ) (c : Command) → ((kind : Kind) (v : ℕ × ℕ) → f kind v ≡ g kind v)
    → job_for f a n c ≡ job_for g a n c
job_same f g a n (command.Get v kind key) same =
    ap (option_map (λ (root : Hash). record { line = n; root = root; kind = kind; key = key })) (same kind (a, v))
job_same f g a n _ same = refl

-- so the job of a line is that by the state's roots
pub job_told : (s : State) (views : ForActor View) (lines : List Line) (journal : List Entry) (a : ℕ) → AreViews s views
    → job_in (root_by views) lines journal a ≡ job_in (view_root s) lines journal a
job_told s views lines journal a k = at (free_line lines journal a)
  where
    at : (o : Option Line) → option_and_then (λ l. job_for (root_by views) a l.number l.command) o
        ≡ option_and_then (λ l. job_for (view_root s) a l.number l.command) o
    at None = refl
    at (Some l) = job_same (root_by views) (view_root s) a l.number l.command (λ kind v. roots_same s views kind v k)

-- a line that asks for a read is a `get` of a view whose map has that root
pub record IsGetOf (roots : Kind → ℕ × ℕ → Option Hash) (a : ℕ) (c : Command) (job : ReadJob) : Type 0 where
  pub view : ℕ
  pub is : c ≡ command.Get view job.kind job.key
  pub root : roots job.kind (a, view) ≡ Some job.root

some_same : {x y : ReadJob} → Some x ≡ Some y → x ≡ y
some_same e = cc

pub asked_get : (roots : Kind → ℕ × ℕ → Option Hash) (a n : ℕ) (c : Command) (job : ReadJob) → job_for roots a n c ≡ Some job
    → IsGetOf roots a c job
asked_get roots a n (command.Get v kind key) job e = at (roots kind (a, v)) refl e
  where
    at : (o : Option Hash) → roots kind (a, v) ≡ o
        → option_map (λ root. record { line = n; root = root; kind = kind; key = key }) o ≡ Some job
        → IsGetOf roots a (command.Get v kind key) job
    at None is e = absurd (let no : None ≡ Some job = e in cc)
    at (Some root) is e =
        let same : record { line = n; root = root; kind = kind; key = key } ≡ job = some_same e in
        subst (IsGetOf roots a (command.Get v kind key)) same (record { view = v; is = refl; root = is })
asked_get roots a n _ job e = absurd (let no : None ≡ Some job = e in cc)

module _ (half : Half) (told : Bool) (Cause : Type 0) (d : Desk) (views : ForActor View) (a n : ℕ) (c : Command) (job : ReadJob)
    (keeps : IsTrue told → AreViews d.state views) (roots : IsTrue told → AreTold d.state)
    (asked : job_for (root_by views) a n c ≡ Some job) where
  get_of : IsGetOf (root_by views) a c job
  get_of = asked_get (root_by views) a n c job asked

  may : MayBeRefused c
  may = subst MayBeRefused (sym get_of.is) tt

  -- it is done in one section
  pub asks_quietly : IsQuiet c
  asks_quietly = subst IsQuiet (sym get_of.is) tt

  -- an answer whose nodes say an outcome is a step of the machine
  pub serves_taken : (answer : Answer) (reply : Reply) (used : List (Arc Node Global))
      → IsReplied half job.kind job.root job.key answer reply used → Serves half told Cause d a c reply (held_nodes used) d
  serves_taken answer reply used (inl memory) =
      subst (λ (r : Reply). Serves half told Cause d a c r (held_nodes used) d) (sym memory.0)
      (subst (λ (u : List (Arc Node Global)). Serves half told Cause d a c says.Memory (held_nodes u) d) (sym memory.1)
      (serves_refused half told a c Cause d d back.Memory may (reads_self told d) roots
      (λ e. absurd (let no : back.Memory ≡ back.Fault = e in cc))))
  serves_taken answer reply used (inr by) =
      subst (λ (r : Reply). Serves half told Cause d a c r (held_nodes used) d) (sym by.1)
      (subst (λ (x : Command). Serves half told Cause d a x (says.Get by.0) (held_nodes used) d) (sym get_of.is) (record {
        step = λ t. step_got half d.state a get_of.view job.kind job.key job.root by.0 (held_nodes used)
            (sym (roots_same d.state views job.kind (a, get_of.view) (keeps t)) ∙ get_of.root) by.2 (roots t);
        told = roots;
        leaves = record {
          refused = λ no. absurd no;
          grows = record { later = omega arith; few = omega arith; ages = omega arith };
          slices = refl;
          fault = λ e. absurd (let no : says.Get by.0 ≡ says.Fault = e in cc);
        };
      }))

  -- a fault that was handed in, for its own cause
  pub serves_failed : Cause → Serves half told Cause d a c says.Fault [] d
  serves_failed cause = serves_refused half told a c Cause d d back.Fault may (reads_self told d) roots (λ _. cause)

  -- one that is replied, or none
  pub serves_faulted : {X : Type 0} (o : Option X) (reply : X → Reply) (used : X → List (Arc Node Global))
      → IfSome o (λ r. (reply r ≡ says.Fault) × (used r ≡ [])) → (IsSome o → Cause)
      → IfSome o (λ r. Serves half told Cause d a c (reply r) (held_nodes (used r)) d)
  serves_faulted None reply used fault cause = tt
  serves_faulted (Some r) reply used fault cause =
      subst (λ (x : Reply × List (Arc Node Global)). Serves half told Cause d a c x.0 (held_nodes x.1) d)
      (λ i. (sym fault.0 i, sym fault.1 i)) (serves_failed (cause refl))

-- what is replied is by the answer's own nodes
pub takes_replied : (half : Half) (job : ReadJob) (answer : Answer) (reply : Reply) (used : List (Arc Node Global)) (o : Outcome)
    → IsReplied half job.kind job.root job.key answer reply used
    → follow half job.kind job.root job.key (held_nodes answer.used.items) ≡ Some o → IsTaken answer.used.items o reply used
takes_replied half job answer reply used o (inl memory) is = inl memory.0
takes_replied half job answer reply used o (inr by) is = inr (
  by.3,
  ap outcome_of by.1 ∙ (sym by.2.says
      ∙ (ap (λ (u : List (Arc Node Global)). follow half job.kind job.root job.key (held_nodes u)) by.3 ∙ is)),
)

-- an actor's next line that is free, by its job
module _ (roots : Kind → ℕ × ℕ → Option Hash) (lines : List Line) (journal : List Entry) (a : ℕ) where
  pub job_next : (l : Line) → next_line lines journal a ≡ Some l → (l.after ≢ 0 → is_answered journal l.after ≡ true)
      → job_in roots lines journal a ≡ job_for roots a l.number l.command
  job_next l next free =
      ap (λ (o : Option Line). option_and_then (λ x. job_for roots a x.number x.command) (option_and_then (if_free journal) o)) next
      ∙ ap (option_and_then (λ x. job_for roots a x.number x.command)) (at (l.after == 0) refl)
    where
      at : (t : Bool) → (l.after == 0) ≡ t → (if t || is_answered journal l.after then Some l else None) ≡ Some l
      at true e = refl
      at false e = let waits : l.after ≢ 0 = grind (arith, nat_tests) in rw (free waits) refl

  -- a job is that of a next line that is free
  job_line : (j : ReadJob) → job_in roots lines journal a ≡ Some j
      → (l : Line) × (next_line lines journal a ≡ Some l) × (((l.after == 0) || is_answered journal l.after) ≡ true)
  job_line j = at (next_line lines journal a) refl
    where
      by : (l : Line) (t : Bool) → option_and_then (λ x. job_for roots a x.number x.command) (if t then Some l else None) ≡ Some j
          → t ≡ true
      by l true e = refl
      by l false e = absurd (let no : None ≡ Some j = e in cc)

      at : (o : Option Line) → next_line lines journal a ≡ o
          → option_and_then (λ x. job_for roots a x.number x.command) (option_and_then (if_free journal) o) ≡ Some j
          → (l : Line) × (next_line lines journal a ≡ Some l) × (((l.after == 0) || is_answered journal l.after) ≡ true)
      at None is e = absurd (let no : None ≡ Some j = e in cc)
      at (Some l) is e = (l, is, by l ((l.after == 0) || is_answered journal l.after) e)

  -- so an actor that is done has none, and so has one that is blocked
  pub done_jobless : (j : ReadJob) → IsDone lines journal a → job_in roots lines journal a ≡ Some j → ⊥
  done_jobless j done e = let w = job_line j e in next_left lines journal a w.0 w.1 done

  pub blocked_jobless : (j : ReadJob) → IsBlocked lines journal a → job_in roots lines journal a ≡ Some j → ⊥
  blocked_jobless j blocked e =
      let w = job_line j e in
      let by = blocked_at lines journal a w.0 w.1 blocked in
      let apart : (w.0.after == 0) ≡ false = let waits = by.0 in grind (arith, nat_tests) in
      false≢true (sym by.1 ∙ (sym (ap (λ b. b || is_answered journal w.0.after) apart) ∙ w.2))

  none_from : (o : Option ReadJob) → ((j : ReadJob) → o ≡ Some j → ⊥) → None ≡ o
  none_from None never = refl
  none_from (Some j) never = absurd (never j refl)

  pub done_job : IsDone lines journal a → None ≡ job_in roots lines journal a
  done_job done = none_from (job_in roots lines journal a) (λ j. done_jobless j done)

  pub blocked_job : IsBlocked lines journal a → None ≡ job_in roots lines journal a
  blocked_job blocked = none_from (job_in roots lines journal a) (λ j. blocked_jobless j blocked)

-- what is taken stands in the entry that is added
pub takes_in : (half : Half) (job : ReadJob) (got : Result Answer ReadFault) (journal new : List Entry) (e : Entry) → new ≡ journal ++ e ∷
    []
    → IfSays half job got (λ nodes o. IsTaken nodes o e.reply e.used.items) → TakesIn half job got journal new
takes_in half job (Ok answer) journal new e is takes = λ o says. (e, is, takes o says)
takes_in half job (Err why) journal new e is takes = tt

-- where it is known that the nodes say nothing, they say anything
pub says_any : (half : Half) (job : ReadJob) (got : Result Answer ReadFault) (P : List (Arc Node Global) → Outcome → Type 0)
    → IfSays half job got (λ nodes o. ⊥) → IfSays half job got P
says_any half job (Ok answer) P none = λ o says. absurd (none o says)
says_any half job (Err why) P none = tt

-- where nothing is, nothing was handed in that is taken
pub takes_none : (half : Half) (job : ReadJob) (got : Result Answer ReadFault) (old new : List Entry) → IfSays half job got (λ nodes o. ⊥)
    → TakesIn half job got old new
takes_none half job (Ok answer) old new takes = λ o says. absurd (takes o says)
takes_none half job (Err why) old new takes = tt
