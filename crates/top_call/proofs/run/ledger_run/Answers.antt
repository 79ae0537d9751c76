-- what the core keeps, told of its status
use Rattle.top_call.proofs.Opening.{opened_by}
use Rattle.std.proofs.Common.{◌≡◌, Bool, Err, arith, refl, is_some, sym, ◌∙◌, ap, subst}
use Rattle.run_words.specs.declared.words.Words.{Words}
use Rattle.top_call.specs.Asking.{interval_in, quiet_in, dump_in, IsRead, WasRead}
use Rattle.top_call.specs.Top.{HasPrinted}
use Rattle.top_call.specs.Stopping.{IsStop}
use Rattle.top_call.proofs.Again.{none_stopped}
use Rattle.top_call.proofs.Stops.{ended_cause, ended_status, has_stop_end, run_usage}
use Rattle.top_call.proofs.Refusals.{run_refusal, script_as, asked_as, full_as}
use Rattle.top_call.proofs.Statuses.{status_from, ends_from}
use Rattle.top_call.proofs.run.ledger_run.Goals as goal

-- running and printing keep the script's records and lines, so the full journal is a run of the script that was asked for; the interval is
-- the one that the core was opened with. The words ask for nothing else.
pub returns-clause-run : goal.returns-clause-run
returns-clause-run g c = record {
  run =
      let same = c.run_actors-core.ensures.same in
      let listed = c.print_all-status.ensures.lists in
      let lines = listed.lines ∙ same.lines ∙ c.in-Ok-open.ensures.script.lines in
      let records = listed.records ∙ same.records ∙ c.in-Ok-open.ensures.script.records in
      let script = script_as g.H.NodeHash.half c.in-Some.asked (g.S.Source.left c.args.source.now) _ _ _ _ (sym records) (sym lines)
      c.in-Ok.ensures.script in
      record {
        script = λ w asks. asked_as g.H.NodeHash.half c.in-Some.asked w (g.S.Source.left c.args.source.now)
            c.print_all-status.new.core.records c.print_all-status.new.core.lines (c.in-Some.ensures.only w asks) script;
        read = λ w asks. subst (λ (x : Words). WasRead x (g.S.Source.left c.args.source.now) (g.S.Source.left c.script_for.new.source))
            (sym (c.in-Some.ensures.only w asks)) c.in-Ok.ensures.read;
        interval = λ w asks.
            listed.interval ∙ same.interval ∙ c.in-Ok-open.ensures.script.interval ∙ c.interval_of.ensures
            ∙ sym (ap interval_in (c.in-Some.ensures.only w asks));
        whole = record {
          kept = c.journal.ensures.kept;
          full = full_as _ _ _ _ (sym listed.lines)
              (sym listed.journal) c.run_actors-core.ensures.full;
        };
      };
  -- the words ask for one run
  printed = λ w asks.
      let only = c.in-Some.ensures.only w asks in
      let quiet : c.is_quiet.result ≡ quiet_in w = c.is_quiet.ensures ∙ sym (ap quiet_in only) in
      let dump : c.has_dump.result ≡ dump_in w = c.has_dump.ensures ∙ sym (ap dump_in only) in
      subst (λ (q : Bool). HasPrinted g.Sh.B.Backend.tells q (dump_in w) (g.K.Sink.held c.args.sink.now)
      (g.K.Sink.held c.print_all-status.new.sink) c.print_all-status.result.0 c.print_all-status.result.1 c.print_all-status.new.core) quiet
      (subst (λ (d : Bool). HasPrinted g.Sh.B.Backend.tells c.is_quiet.result d (g.K.Sink.held c.args.sink.now)
      (g.K.Sink.held c.print_all-status.new.sink) c.print_all-status.result.0 c.print_all-status.result.1 c.print_all-status.new.core) dump
      c.print_all-status.ensures.printed);
  ended = status_from g.H.NodeHash.half g.Sh.B.Backend.tells c.print_all-status.result.0 c.print_all-status.new.core
      (g.K.Sink.faults c.args.sink.now) (g.K.Sink.faults c.print_all-status.new.sink) c.journal.ensures.kept
      c.print_all-status.ensures.said;
  -- the store was opened with a count that isn't below the shelf's, and its count never falls
  counts = (
    omega (
      arith,
      c.print_all-status.ensures.lists.opened,
      c.run_actors-core.ensures.same.opened,
      c.in-Ok-open.ensures.opened.since,
    ),
    c.journal.ensures.kept.since,
  );
}

pub returns-clause-refusal : goal.returns-clause-refusal
returns-clause-refusal g c = run_refusal g.H.NodeHash.half _ _ _ _ _ _ _ _ _ _ _ _ (returns-clause-run g c).run.script
    (returns-clause-run g c).ended.one_of

pub returns-clause-complete : goal.returns-clause-complete
returns-clause-complete g c _ calm _ still _ =
    ends_from g.H.NodeHash.half g.Sh.B.Backend.tells c.args.words.now (g.S.Source.left c.args.source.now) c.print_all-status.result.0
    (g.Sh.Shelf.faults c.args.shelf) c.print_all-status.new.core (g.K.Sink.faults c.args.sink.now)
    (g.K.Sink.faults c.print_all-status.new.sink) c.journal.ensures.kept (returns-clause-run g c).counts still calm
    c.print_all-status.ensures.said

-- without a store there is no core and nothing is written, and the status tells a failure from want of memory
pub returns-in-Err-clause-opening : goal.returns-in-Err-clause-opening
returns-in-Err-clause-opening g c = record {
  no_core = λ s. ap is_some c.not_opened.ensures.core;
  unwritten = λ s. refl;
  read = λ s w asks. subst (λ (x : Words). WasRead x (g.S.Source.left c.args.source.now) (g.S.Source.left c.script_for.new.source))
      (sym (c.in-Some.ensures.only w asks)) c.in-Ok.ensures.read;
  cause = rw c.not_opened.ensures.unopened
      (opened_by g.Sh.Shelf.faults (g.Sh.Shelf.faults c.args.shelf) c.not_opened.result.status c.in-Err.unopened
      c.not_opened.ensures.shelf c.not_opened.ensures.store c.not_opened.ensures.memory
      (λ s e. c.open.ensures.shelf s (c.in-Err.is ∙ ap Err e)) (λ t e. (c.open.ensures.store t (c.in-Err.is ∙ ap Err e)).rose));
  only = λ a b n. ap is_some c.not_opened.ensures.unopened;
}

-- a run on disks that stop is of the script, and its core stands in what it left
pub returns-in-Some-stop_of-clause-refusal : goal.returns-in-Some-stop_of-clause-refusal
returns-in-Some-stop_of-clause-refusal g c =
    rw c.only_stopped.ensures.status
    (run_refusal g.H.NodeHash.half _ _ _ _ _ _ _ _ c.in-Ok.script.records.items c.in-Ok.script.lines.items _ _
    (λ w asks. asked_as g.H.NodeHash.half c.in-Some.asked w _ _ _ (c.in-Some.ensures.only w asks) c.in-Ok.ensures.script)
    (ended_status _ _ _ _ _ _ _ _ _ _ _ _ _ c.run_stop-status.result.1 c.run_stop-status.ensures.ended))

pub returns-in-Some-stop_of-clause-cause : goal.returns-in-Some-stop_of-clause-cause
returns-in-Some-stop_of-clause-cause g c =
    rw c.only_stopped.ensures.status (rw c.only_stopped.ensures.core (rw c.only_stopped.ensures.stopped
    (ended_cause _ _ _ _ _ _ _ _ _ _ _ _ _ _ _ _ _ c.run_stop-status.result.1 c.run_stop-status.ensures.ended
    c.script_for.ensures.left.later c.run_stop-status.ensures.later c.script_for.ensures.left.taken)))

pub returns-in-Some-stop_of-clause-stopped : goal.returns-in-Some-stop_of-clause-stopped
returns-in-Some-stop_of-clause-stopped g c =
    rw c.only_stopped.ensures.status (rw c.only_stopped.ensures.core (rw c.only_stopped.ensures.stopped
    (has_stop_end g.H.NodeHash.half _ _ _ _ _ _ _ _ _ _ c.in-Ok.script.records.items c.in-Ok.script.lines.items c.in-Some-stop_of.stop.at
    c.in-Some-stop_of.stop.pick c.in-Some-stop_of.stop.interval c.in-Some-stop_of.stop.quiet c.in-Some.asked c.run_stop-status.result.1
    c.in-Some-stop_of.ensures.asked c.in-Some.ensures.only c.in-Ok.ensures.script c.in-Ok.ensures.read c.run_stop-status.ensures.ended)))

pub returns-clause-usage : goal.returns-clause-usage
returns-clause-usage g c =
    run_usage _ _ _ _ _ _ _ c.in-Some.ensures.command (returns-clause-run g c).ended.one_of
    (λ w asks none. c.script_for.ensures.unread (λ read. none (subst IsRead (sym (c.in-Some.ensures.only w asks)) read)))

-- other words ask for no such run
pub returns-clause-stopped : goal.returns-clause-stopped
returns-clause-stopped g c =
    none_stopped g.H.NodeHash.half _ _ _ _ _ _ _ _ _ _ _
    (λ w asks stop. absurd (c.in_default-stop_of.ensures.none refl (subst IsStop (c.in-Some.ensures.only w asks) stop)))
