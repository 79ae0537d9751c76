-- the run of the top call has the script and the interval that the words say, and ends its dump as they ask
use Rattle.std.proofs.Common.{Option, None, Some, IfSome, MatchOption}
use Rattle.top_call.proofs.Asked.{planned_as}
use Rattle.ledger_run.proofs.run_on.Goals as goal

-- what a run says of its core, of each part of it
within : {X : Type 0} (N : Type 0) (P Q : X → Type 0) (o : Option X) → ((x : X) → P x → Q x) → MatchOption o N P → IfSome o Q
within N P Q None to i = tt
within N P Q (Some x) to i = to x i

within_or : {X : Type 0} (N : Type 0) (P Q : X → Type 0) (o : Option X) → ((x : X) → P x → Q x) → MatchOption o N P → MatchOption o N Q
within_or N P Q None to i = i
within_or N P Q (Some x) to i = to x i

pub returns-clause-script : goal.returns-clause-script
returns-clause-script g c =
    within _ _ _ c.ledger_run.result.core (λ x r w asks. planned_as _ w _ x.records x.lines (r.run.script w asks)) c.ledger_run.ensures.run

pub returns-clause-interval : goal.returns-clause-interval
returns-clause-interval g c = within _ _ _ c.ledger_run.result.core (λ x r. r.run.interval) c.ledger_run.ensures.run

pub returns-clause-whole : goal.returns-clause-whole
returns-clause-whole g c = within _ _ _ c.ledger_run.result.core (λ x r. r.run.whole) c.ledger_run.ensures.run

pub returns-clause-status : goal.returns-clause-status
returns-clause-status g c = within _ _ _ c.ledger_run.result.core (λ x r. r.ended) c.ledger_run.ensures.run

pub returns-clause-dump : goal.returns-clause-dump
returns-clause-dump g c =
    within_or _ _ _ c.ledger_run.result.core (λ x r w asks. (r.printed w asks).dumped) c.ledger_run.ensures.run
