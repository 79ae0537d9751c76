use Rattle.std.proofs.Common.{◌≡◌, ◌≢◌, true, sym, ◌∙◌, ap, subst, arith}
use Rattle.ledger_machine.specs.declared.commands.Line.{Line}
use Rattle.ledger_machine.specs.Reading.{view_root}
use Rattle.ledger_machine.specs.Runs.{is_answered}
use Rattle.store_core.specs.Halls.{AreViews, root_by}
use Rattle.store_core.specs.Journal.{CoreView}
use Rattle.store_core.proofs.Asking.{job_next, job_told, done_job, blocked_job}
use Rattle.store_core.proofs.Journals.{kept_next, kept_done, kept_past, moved, moved_end}
use Rattle.store_core.proofs.Waiting.{blocked_by, same_line}
use Rattle.store_core.proofs.core_calls.Core.read_job.Goals as goal
use Rattle.store_core.proofs.core_calls.Core.read_job.Goals.{else-after-ne0-via-then-after-ne0+else-not-is_answered}
use Rattle.store_core.proofs.core_calls.Core.read_job.Goals.{else-after-ne0-via-else-after-ne0}

-- the lines are those of 64 actors, so an actor past the last one has none
pub returns-then-actor-len-clause-exact : goal.returns-then-actor-len-clause-exact
returns-then-actor-len-clause-exact g c =
    done_job (root_by c.args.self.now.views) c.args.self.now.lines c.args.self.now.journal c.args.actor
    (rw (← c.self.view_is) (kept_past _ _ _ _ _ _ _ _ _ _ _ _ c.self.invariant.0 c.args.actor
    (omega (arith, c.self.invariant.0.cursor_count, c.len.ensures, c.if-actor-len.true))))

pub returns-then-actor-len-clause-told : goal.returns-then-actor-len-clause-told
returns-then-actor-len-clause-told g c told =
    done_job (view_root c.args.self.now.state) c.args.self.now.lines c.args.self.now.journal c.args.actor
    (rw (← c.self.view_is) (kept_past _ _ _ _ _ _ _ _ _ _ _ _ c.self.invariant.0 c.args.actor
    (omega (arith, c.self.invariant.0.cursor_count, c.len.ensures, c.if-actor-len.true))))

-- no line of the actor stands from its cursor on
pub returns-in_default-clause-exact : goal.returns-in_default-clause-exact
returns-in_default-clause-exact g c =
    let k = c.self.invariant.0 in
    done_job (root_by c.args.self.now.views) c.args.self.now.lines c.args.self.now.journal c.args.actor
    (rw (← c.self.view_is)
    (kept_done _ _ _ _ _ _ _ _ _ _ _ _ k c.args.actor (omega (arith, k.cursor_count, c.len.ensures, c.if-actor-len.false))
    (moved_end c.self.inside.cursors.items c.deref.ensures.value c.index-from.ensures c.self.inside.cursors.ok.0 c.len.ensures
    c.if-actor-len.false c.in_default.ensures)))

pub returns-in_default-clause-told : goal.returns-in_default-clause-told
returns-in_default-clause-told g c told =
    let k = c.self.invariant.0 in
    done_job (view_root c.args.self.now.state) c.args.self.now.lines c.args.self.now.journal c.args.actor
    (rw (← c.self.view_is)
    (kept_done _ _ _ _ _ _ _ _ _ _ _ _ k c.args.actor (omega (arith, k.cursor_count, c.len.ensures, c.if-actor-len.false))
    (moved_end c.self.inside.cursors.items c.deref.ensures.value c.index-from.ensures c.self.inside.cursors.ok.0 c.len.ensures
    c.if-actor-len.false c.in_default.ensures)))

-- the line that it waits for has no entry
pub returns-then-not-is_answered-clause-exact : goal.returns-then-not-is_answered-clause-exact
returns-then-not-is_answered-clause-exact g c =
    let k = c.self.invariant.0 in
    let next = moved c.self.inside.cursors.items c.deref.ensures.value c.index-from.ensures
    c.self.inside.cursors.ok.0 c.len.ensures c.if-actor-len.false c.in-Some.ensures in
    blocked_job (root_by c.args.self.now.views) c.args.self.now.lines c.args.self.now.journal c.args.actor
    (rw (← c.self.view_is) (blocked_by c.self.inside.script.lines.items c.self.inside.journal.items c.args.actor c.index.result.now
    (kept_next _ _ _ _ _ _ _ _ _ _ _ _ k c.args.actor _
    (omega (arith, k.cursor_count, c.len.ensures, c.if-actor-len.false)) next c.index.result.now c.index.ensures)
    c.if-after-ne0.true (sym (rw (← c.self.view_is) at c.is_answered.ensures) ∙ c.if-not-is_answered.true)))

pub returns-then-not-is_answered-clause-told : goal.returns-then-not-is_answered-clause-told
returns-then-not-is_answered-clause-told g c told =
    let k = c.self.invariant.0 in
    let next = moved c.self.inside.cursors.items c.deref.ensures.value c.index-from.ensures
    c.self.inside.cursors.ok.0 c.len.ensures c.if-actor-len.false c.in-Some.ensures in
    blocked_job (view_root c.args.self.now.state) c.args.self.now.lines c.args.self.now.journal c.args.actor
    (rw (← c.self.view_is) (blocked_by c.self.inside.script.lines.items c.self.inside.journal.items c.args.actor c.index.result.now
    (kept_next _ _ _ _ _ _ _ _ _ _ _ _ k c.args.actor _
    (omega (arith, k.cursor_count, c.len.ensures, c.if-actor-len.false)) next c.index.result.now c.index.ensures)
    c.if-after-ne0.true (sym (rw (← c.self.view_is) at c.is_answered.ensures) ∙ c.if-not-is_answered.true)))

-- the line is the actor's next one and free, so the job is its
pub returns-clause-exact : goal.returns-clause-exact
returns-clause-exact g c =
    let k = c.self.invariant.0 in
    let next = moved c.self.inside.cursors.items c.deref.ensures.value c.index-from.ensures
    c.self.inside.cursors.ok.0 c.len.ensures c.if-actor-len.false c.in-Some.ensures in
    let free : c.index-line.result.now.after ≢ 0 → is_answered c.self.inside.journal.items c.index-line.result.now.after ≡ true =
    (let same = same_line c.self.inside.script.lines.items _ c.index-line.result.now c.index.result.now next.within c.index-line.ensures
    c.index.ensures in λ waits.
    elim c.else-after-ne0.branch [
      | else-after-ne0-via-then-after-ne0+else-not-is_answered w ↦
          ap (λ (l : Line). is_answered c.self.inside.journal.items l.after) same
          ∙ (sym (rw (← c.self.view_is) at w.is_answered.ensures) ∙ w.if-not-is_answered.false)
      | else-after-ne0-via-else-after-ne0 w ↦ absurd (waits (ap (λ (l : Line). l.after) same ∙ w.if-after-ne0.false))
    ]) in
    c.job_of.ensures ∙ rw (← c.self.view_is)
    (sym (job_next (root_by c.self.inside.hall.views) c.self.inside.script.lines.items c.self.inside.journal.items c.args.actor
    c.index-line.result.now
    (kept_next _ _ _ _ _ _ _ _ _ _ _ _ k c.args.actor _
    (omega (arith, k.cursor_count, c.len.ensures, c.if-actor-len.false)) next c.index-line.result.now c.index-line.ensures) free))

-- the headers that the views keep are those that are stored
pub returns-clause-told : goal.returns-clause-told
returns-clause-told g c told =
    returns-clause-exact g c
    ∙ job_told c.args.self.now.state c.args.self.now.views c.args.self.now.lines c.args.self.now.journal c.args.actor
    (subst (λ (x : CoreView). AreViews x.state x.views) c.self.view_is (c.known.ensures.views told))
