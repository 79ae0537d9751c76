-- the run is of the script, and what was opened again has all that it retained
use Rattle.std.proofs.Common.{◌∙◌}
use Rattle.top_call.proofs.Again.{stopped_again, stopped_alone}
use Rattle.top_call.proofs.stop.run_stop.Goals as goal

pub returns-in-Ok-reopen-clause-ended : goal.returns-in-Ok-reopen-clause-ended
returns-in-Ok-reopen-clause-ended g c =
    let same = c.run_actors-core.ensures.same in
    let new = c.in-Ok.ensures.script in (
      record {
        records_are = same.records ∙ new.records;
        lines_are = same.lines ∙ new.lines;
        interval_is = same.interval ∙ new.interval;
        whole = record { kept = c.run_actors-core.ensures.kept; full = c.run_actors-core.ensures.full };
      },
      stopped_again g.H.NodeHash.half _ c.args.asked.at c.args.asked.interval c.args.asked.quiet _ _ _ _ _ c.run_actors-core.result
          c.in-Ok-reopen.reopened.core c.in-Ok-reopen.reopened.kept c.in-Ok-reopen.reopened.whole (same.missed ∙ new.missed)
          c.run_actors-core.ensures.kept c.print_stop-status.ensures.prints c.in-Ok-reopen.ensures.reopened c.in-Ok-reopen.ensures.whole.0
          c.in-Ok-reopen.ensures.whole.1,
    )

pub returns-in-Err-reopen-clause-ended : goal.returns-in-Err-reopen-clause-ended
returns-in-Err-reopen-clause-ended g c =
    let same = c.run_actors-core.ensures.same in
    let new = c.in-Ok.ensures.script in (
      record {
        records_are = same.records ∙ new.records;
        lines_are = same.lines ∙ new.lines;
        interval_is = same.interval ∙ new.interval;
        whole = record { kept = c.run_actors-core.ensures.kept; full = c.run_actors-core.ensures.full };
      },
      stopped_alone g.H.NodeHash.half _ c.args.asked.at c.args.asked.interval c.args.asked.quiet _ _ _ _ _ c.run_actors-core.result
          (same.missed ∙ new.missed) c.run_actors-core.ensures.kept (c.print_alone-status.ensures.prints c.args.asked.at),
    )
