use Rattle.std.specs.Prelude.{slice_index}
use Rattle.ledger_machine.specs.Scripts.{numbers_of}
use Rattle.std.proofs.Common.{◌≡◌, ◌≢◌, [], inl, inr, ⊎_elim, ℕ, true, take, length, refl, sym, ◌∙◌, ap, arith, length-append}
use Rattle.std.proofs.lemmas.Bool.{false≢true}
use Rattle.ledger_machine.specs.declared.commands.Line.{Line}
use Rattle.ledger_machine.specs.Runs.{is_answered}
use Rattle.ledger_laws.proofs.shared.EachCommand.{step_sound}
use Rattle.store_core.proofs.Journals.{kept_few, kept_less, kept_next, kept_moved, kept_step, kept_done, kept_past, kept_end, kept_sliced}
use Rattle.store_core.proofs.Journals.{kept_in_range, moved, moved_end, pushed, answers}
use Rattle.store_core.proofs.Waiting.{done_free, next_left, blocked_by, blocked_at, same_line}
use Rattle.store_core.proofs.Sections.{core_same}
use Rattle.ledger_searches.specs.Hunting.{hunt_of}
use Rattle.store_core.specs.Journal.{CoreView}
use Rattle.store_core.proofs.Checks.{hunts_on, keeps_on, keeps_sliced, marks_left, search_on}
use Rattle.store_core.proofs.Sections.{asked_few, asked_none, counts_fewer, slice_of}
use Rattle.ledger_spec.specs.Maps.{ForActor}
use Rattle.store_core.specs.Halls.{root_by}
use Rattle.store_core.specs.declared.jobs.View.{View}
use Rattle.store_core.proofs.Asking.{blocked_jobless, done_jobless, job_next, takes_in, takes_none}
use Rattle.store_core.proofs.Failing.{without_few, without_fewer}
use Rattle.store_core.proofs.core_calls.Core.advance.Goals as goal
use Rattle.store_core.proofs.core_calls.Core.advance.Goals.{else-after-ne0-via-then-after-ne0+else-not-is_answered}
use Rattle.store_core.proofs.core_calls.Core.advance.Goals.{else-after-ne0-via-else-after-ne0}

-- the actor has no line from its cursor on, and those before it are answered, so it is done
pub returns-in_default-clause-finished : goal.returns-in_default-clause-finished
returns-in_default-clause-finished g c =
    let k = c.self.invariant.0 in (
      (λ _. rw (← c.self.view_is)
          (kept_done _ _ _ _ _ _ _ _ _ _ _ _ k c.args.actor (omega (arith, k.cursor_count, c.len.ensures, c.if-actor-len.false))
          (moved_end c.self.inside.cursors.items c.deref.ensures.value c.index-from.ensures c.self.inside.cursors.ok.0 c.len.ensures
          c.if-actor-len.false c.in_default.ensures))),
      (λ _. refl),
    )

pub returns-in_default-clause-blocked : goal.returns-in_default-clause-blocked
returns-in_default-clause-blocked g c =
    ((λ e. cc), (λ blocked. absurd (done_free _ _ c.args.actor ((returns-in_default-clause-finished g c).0 refl) blocked)))

-- each line of the script is in range, so the one that was found is; no more epochs have ended than there are entries, and there are
-- fewer of those than lines
pub section-requires-clause-may : goal.section-requires-clause-may
section-requires-clause-may g c _ _ =
    let k = c.self.invariant.0 in
    let next = moved c.self.inside.cursors.items c.deref.ensures.value c.index-from.ensures
    c.self.inside.cursors.ok.0 c.len.ensures c.if-actor-len.false c.in-Some.ensures in
    let less = kept_less _ _ _ _ _ _ _ _ _ _ _ _ k c.args.actor _
    (omega (arith, k.cursor_count, c.len.ensures, c.if-actor-len.false)) next c.index-line.result.now c.index-line.ensures in
    record {
      in_range = kept_in_range _ _ _ _ _ _ _ _ _ _ _ _ k _ next.within c.index-line.result.now c.index-line.ensures;
      sound = k.sound;
      told = k.roots;
      room = omega (arith, k.young, less, k.servable.few);
    }

-- room for an entry of each line was reserved, and this line has none yet, so the push succeeds
pub unwrap-requires : goal.unwrap-requires
unwrap-requires g c =
    let k = c.self.invariant.0 in
    let next = moved c.self.inside.cursors.items c.deref.ensures.value c.index-from.ensures
    c.self.inside.cursors.ok.0 c.len.ensures c.if-actor-len.false c.in-Some.ensures in
    c.push.ensures.succeeds (let less = kept_less _ _ _ _ _ _ _ _ _ _ _ _ k c.args.actor _
    (omega (arith, k.cursor_count, c.len.ensures, c.if-actor-len.false)) next c.index-line.result.now c.index-line.ensures in omega
    (arith, k.room, c.self.inside.journal.ok.0))

-- the line that was found is the actor's next one, and the line that it waits for has no entry
pub returns-then-not-is_answered-clause-blocked : goal.returns-then-not-is_answered-clause-blocked
returns-then-not-is_answered-clause-blocked g c =
    let k = c.self.invariant.0 in
    let next = moved c.self.inside.cursors.items c.deref.ensures.value c.index-from.ensures
    c.self.inside.cursors.ok.0 c.len.ensures c.if-actor-len.false c.in-Some.ensures in (
      (λ _. rw (← c.self.view_is) (blocked_by c.self.inside.script.lines.items c.self.inside.journal.items c.args.actor c.index.result.now
          (kept_next _ _ _ _ _ _ _ _ _ _ _ _ k c.args.actor _
          (omega (arith, k.cursor_count, c.len.ensures, c.if-actor-len.false)) next c.index.result.now c.index.ensures)
          c.if-after-ne0.true (sym (rw (← c.self.view_is) at c.is_answered.ensures) ∙ c.if-not-is_answered.true))),
      (λ _. refl),
    )

pub returns-then-not-is_answered-clause-finished : goal.returns-then-not-is_answered-clause-finished
returns-then-not-is_answered-clause-finished g c =
    ((λ e. cc), (λ done. absurd (done_free _ _ c.args.actor done ((returns-then-not-is_answered-clause-blocked g c).0 refl))))

pub returns-then-not-is_answered-clause-few : goal.returns-then-not-is_answered-clause-few
returns-then-not-is_answered-clause-few g c = kept_few _ _ _ _ _ _ _ _ _ _ _ _ c.self.invariant.0

-- no line of the actor stands between its old cursor and this place, so moving the cursor there skips none
pub invariant_of-self-then-not-is_answered : goal.invariant_of-self-then-not-is_answered
invariant_of-self-then-not-is_answered g c =
    let k = c.self.invariant.0 in
    let next = moved c.self.inside.cursors.items c.deref.ensures.value c.index-from.ensures
    c.self.inside.cursors.ok.0 c.len.ensures c.if-actor-len.false c.in-Some.ensures in (
      kept_moved _ _ _ _ _ _ _ _ _ _ _ _ k c.args.actor _ (omega (arith, k.cursor_count, c.len.ensures, c.if-actor-len.false))
          (omega (arith, next.within)) next.none,
      c.self.invariant.1,
    )

-- the line waits for none, or for one that is answered, so the actor is not blocked
pub returns-clause-blocked : goal.returns-clause-blocked
returns-clause-blocked g c =
    let k = c.self.invariant.0 in
    let next = moved c.self.inside.cursors.items c.deref.ensures.value c.index-from.ensures
    c.self.inside.cursors.ok.0 c.len.ensures c.if-actor-len.false c.in-Some.ensures in
    let free : c.index-line.result.now.after ≢ 0 → is_answered c.self.inside.journal.items c.index-line.result.now.after ≡ true =
    (let same = same_line c.self.inside.script.lines.items _ c.index-line.result.now c.index.result.now next.within c.index-line.ensures
    c.index.ensures in λ waits.
    elim c.else-after-ne0.branch [
      | else-after-ne0-via-then-after-ne0+else-not-is_answered w ↦
          ap (λ (l : Line). is_answered c.self.inside.journal.items l.after) same
          ∙ (sym (rw (← c.self.view_is) at w.is_answered.ensures) ∙ w.if-not-is_answered.false)
      | else-after-ne0-via-else-after-ne0 w ↦ absurd (waits (ap (λ (l : Line). l.after) same ∙ w.if-after-ne0.false))
    ]) in (
      (λ e. cc),
      (λ blocked. absurd (
          let by = blocked_at c.self.inside.script.lines.items c.self.inside.journal.items c.args.actor c.index-line.result.now
          (kept_next _ _ _ _ _ _ _ _ _ _ _ _ k c.args.actor _
          (omega (arith, k.cursor_count, c.len.ensures, c.if-actor-len.false)) next c.index-line.result.now c.index-line.ensures)
          (rw (← c.self.view_is) at blocked) in
          false≢true (sym by.1 ∙ free by.0))),
    )

-- a line of the actor was left, so it is not done
pub returns-clause-finished : goal.returns-clause-finished
returns-clause-finished g c =
    let k = c.self.invariant.0 in
    let next = moved c.self.inside.cursors.items c.deref.ensures.value c.index-from.ensures
    c.self.inside.cursors.ok.0 c.len.ensures c.if-actor-len.false c.in-Some.ensures in (
      (λ e. cc),
      (λ done. absurd (next_left c.self.inside.script.lines.items c.self.inside.journal.items c.args.actor c.index-line.result.now
          (kept_next _ _ _ _ _ _ _ _ _ _ _ _ k c.args.actor _
          (omega (arith, k.cursor_count, c.len.ensures, c.if-actor-len.false)) next c.index-line.result.now c.index-line.ensures)
          (rw (← c.self.view_is) at done))),
    )

-- a slice is done of a line that isn't blocked
pub returns-in_default-section-clause-blocked : goal.returns-in_default-section-clause-blocked
returns-in_default-section-clause-blocked g c =
    let k = c.self.invariant.0 in
    let next = moved c.self.inside.cursors.items c.deref.ensures.value c.index-from.ensures
    c.self.inside.cursors.ok.0 c.len.ensures c.if-actor-len.false c.in-Some.ensures in
    let free : c.index-line.result.now.after ≢ 0 → is_answered c.self.inside.journal.items c.index-line.result.now.after ≡ true =
    (let same = same_line c.self.inside.script.lines.items _ c.index-line.result.now c.index.result.now next.within c.index-line.ensures
    c.index.ensures in λ waits.
    elim c.else-after-ne0.branch [
      | else-after-ne0-via-then-after-ne0+else-not-is_answered w ↦
          ap (λ (l : Line). is_answered c.self.inside.journal.items l.after) same
          ∙ (sym (rw (← c.self.view_is) at w.is_answered.ensures) ∙ w.if-not-is_answered.false)
      | else-after-ne0-via-else-after-ne0 w ↦ absurd (waits (ap (λ (l : Line). l.after) same ∙ w.if-after-ne0.false))
    ]) in (
      (λ e. cc),
      (λ blocked. absurd (
          let by = blocked_at c.self.inside.script.lines.items c.self.inside.journal.items c.args.actor c.index-line.result.now
          (kept_next _ _ _ _ _ _ _ _ _ _ _ _ k c.args.actor _
          (omega (arith, k.cursor_count, c.len.ensures, c.if-actor-len.false)) next c.index-line.result.now c.index-line.ensures)
          (rw (← c.self.view_is) at blocked) in
          false≢true (sym by.1 ∙ free by.0))),
    )

pub returns-in_default-section-clause-finished : goal.returns-in_default-section-clause-finished
returns-in_default-section-clause-finished g c =
    let k = c.self.invariant.0 in
    let next = moved c.self.inside.cursors.items c.deref.ensures.value c.index-from.ensures
    c.self.inside.cursors.ok.0 c.len.ensures c.if-actor-len.false c.in-Some.ensures in (
      (λ e. cc),
      (λ done. absurd (next_left c.self.inside.script.lines.items c.self.inside.journal.items c.args.actor c.index-line.result.now
          (kept_next _ _ _ _ _ _ _ _ _ _ _ _ k c.args.actor _
          (omega (arith, k.cursor_count, c.len.ensures, c.if-actor-len.false)) next c.index-line.result.now c.index-line.ensures)
          (rw (← c.self.view_is) at done))),
    )

pub returns-in_default-section-clause-few : goal.returns-in_default-section-clause-few
returns-in_default-section-clause-few g c = kept_few _ _ _ _ _ _ _ _ _ _ _ _ c.self.invariant.0

-- no line of the actor stands between its old cursor and this place, and a slice leaves the state
pub invariant_of-self-in_default-section : goal.invariant_of-self-in_default-section
invariant_of-self-in_default-section g c =
    let k = c.self.invariant.0 in
    let next = moved c.self.inside.cursors.items c.deref.ensures.value c.index-from.ensures
    c.self.inside.cursors.ok.0 c.len.ensures c.if-actor-len.false c.in-Some.ensures in
    let shares = c.in_default-section.ensures.does.shares in (
      kept_moved _ _ _ _ _ _ _ _ _ _ _ _
          (kept_sliced _ _ _ _ _ _ _ _ _ _ _ _ k c.section.new.self.desk.state c.section.new.self.desk.faults
          (c.in_default-section.ensures.does.same) (c.in_default-section.ensures.does.still) c.in_default-section.ensures.does.grows.later)
          c.args.actor _ (omega (arith, k.cursor_count, c.len.ensures, c.if-actor-len.false)) (omega (arith, next.within)) next.none,
      keeps_sliced g.H.NodeHash.half g.Sh.B.Backend.tells c.self.inside.hall.desk.state c.section.new.self.desk.state
          c.self.inside.journal.items
          c.self.inside.searches c.section.new.searches shares.kept shares.generation
          (c.in_default-section.ensures.does.same) c.self.invariant.1.young,
    )

-- a slice of the actor's next line
pub returns-in_default-section-clause-more : goal.returns-in_default-section-clause-more
returns-in_default-section-clause-more g c _ =
    let k = c.self.invariant.0 in
    let next = moved c.self.inside.cursors.items c.deref.ensures.value c.index-from.ensures
    c.self.inside.cursors.ok.0 c.len.ensures c.if-actor-len.false c.in-Some.ensures in
    let before : CoreView = record {
      records = c.self.inside.script.records.items;
      lines = c.self.inside.script.lines.items;
      interval = c.self.inside.interval;
      opened = c.self.inside.opened;
      faults = c.self.inside.hall.desk.faults;
      gets = c.self.inside.hall.desk.gets;
      slices = c.self.inside.hall.desk.slices;
      written = c.self.inside.hall.desk.written;
      archived = c.self.inside.hall.desk.archived;
      marks = c.self.inside.searches.marks;
      hunts = c.self.inside.searches.hunts.items;
      missed = c.self.inside.missed;
      failed = c.self.inside.failed;
      journal = c.self.inside.journal.items;
      state = c.self.inside.hall.desk.state;
      views = c.self.inside.hall.views;
    } in
    let behind : CoreView = record {
      records = c.self.inside.script.records.items;
      lines = c.self.inside.script.lines.items;
      interval = c.self.inside.interval;
      opened = c.self.inside.opened;
      faults = c.section.new.self.desk.faults;
      gets = c.section.new.self.desk.gets;
      slices = c.section.new.self.desk.slices;
      written = c.section.new.self.desk.written;
      archived = c.section.new.self.desk.archived;
      marks = c.section.new.searches.marks;
      hunts = c.section.new.searches.hunts.items;
      missed = c.self.inside.missed;
      failed = c.self.inside.failed;
      journal = c.self.inside.journal.items;
      state = c.section.new.self.desk.state;
      views = c.section.new.self.views;
    } in
    let sliced = slice_of g.H.NodeHash.half g.Sh.B.Backend.tells c.args.actor c.index-line.result.now.command c.args.part
    c.self.inside.hall.desk c.self.inside.searches c.section.new.self.desk c.section.new.searches
    c.in_default-section.ensures.does.shares.others
    c.in_default-section.ensures.does.shares.generation c.in_default-section.ensures.does.more in (
      sliced.cut,
      rw (← c.self.view_is) (record {
        line = c.index-line.result.now;
        next = kept_next _ _ _ _ _ _ _ _ _ _ _ _ k c.args.actor _
            (omega (arith, k.cursor_count, c.len.ensures, c.if-actor-len.false)) next c.index-line.result.now c.index-line.ensures;
        slice = sliced.slice before behind refl refl refl refl refl refl refl;
        later = c.in_default-section.ensures.does.grows.later;
        state = λ told. c.in_default-section.ensures.does.same told;
        still = c.in_default-section.ensures.does.still;
        rest = ap (λ (v : ForActor View). record behind { views = v }) (c.in_default-section.ensures.views refl);
      }),
    )

-- the entry is that of the next line, by a step of the machine from the state before, so the run goes on by it
pub invariant_of-self-2 : goal.invariant_of-self-2
invariant_of-self-2 g c =
    let k = c.self.invariant.0 in
    let next = moved c.self.inside.cursors.items c.deref.ensures.value c.index-from.ensures
    c.self.inside.cursors.ok.0 c.len.ensures c.if-actor-len.false c.in-Some.ensures in
    let line = c.index-line.result.now in
    let range = kept_in_range _ _ _ _ _ _ _ _ _ _ _ _ k _ next.within line c.index-line.ensures in
    let free : c.index-line.result.now.after ≢ 0 → is_answered c.self.inside.journal.items c.index-line.result.now.after ≡ true =
    (let same = same_line c.self.inside.script.lines.items _ c.index-line.result.now c.index.result.now next.within c.index-line.ensures
    c.index.ensures in λ waits.
    elim c.else-after-ne0.branch [
      | else-after-ne0-via-then-after-ne0+else-not-is_answered w ↦
          ap (λ (l : Line). is_answered c.self.inside.journal.items l.after) same
          ∙ (sym (rw (← c.self.view_is) at w.is_answered.ensures) ∙ w.if-not-is_answered.false)
      | else-after-ne0-via-else-after-ne0 w ↦ absurd (waits (ap (λ (l : Line). l.after) same ∙ w.if-after-ne0.false))
    ]) in
    let step = c.in-Some-section.ensures.does.serves.step in
    let items = pushed c.push.result _ _ _ _ c.push.ensures.items c.unwrap.ensures in
    let shares = c.in-Some-section.ensures.does.shares in (
      rw (pushed c.push.result _ _ _ _ c.push.ensures.items c.unwrap.ensures)
          (kept_step _ _ _ _ _ _ _ _ _ _ _ _ k c.args.actor _ (omega (arith, k.cursor_count, c.len.ensures, c.if-actor-len.false)) next
          c.index-line.result.now c.index-line.ensures _ _ _ _ _ refl refl free step
          (λ t. step_sound _ c.known_half.ensures _ _ _ _ _ _ range (k.sound t) (step t))
          c.in-Some-section.ensures.does.serves.told c.in-Some-section.ensures.does.serves.leaves.grows.few
          c.in-Some-section.ensures.does.serves.leaves.grows.ages
          c.push.ensures.capacity c.in-Some-section.ensures.does.serves.leaves.grows.later
          (rw c.forget.ensures (omega (arith, without_few c.args.actor c.self.inside.failed)))
          (λ e. ⊎_elim (λ rose. inl rose)
          (λ by. inr (rw c.forget.ensures (omega (
            arith,
            without_fewer c.args.actor c.self.inside.failed (sym c.has-failed.ensures ∙
                by.1),
          ))))
          (c.in-Some-section.ensures.does.serves.leaves.fault e))),
      keeps_on g.H.NodeHash.half g.Sh.B.Backend.tells c.self.inside.hall.desk.state c.section.new.self.desk.state c.args.actor
          c.index-line.result.now.command _ c.section.new.searches c.end_search.new.searches c.in-Some-section.reply
          c.self.inside.journal.items _ c.self.inside.searches c.end_search.ensures step shares.kept shares.generation
          c.self.invariant.1.young (omega (arith, ap length items, simp length-append at (ap length items))),
    )

-- one entry more: the actor's next line with the machine's reply, and a fault only where the store's count rose
pub returns-clause-answered : goal.returns-clause-answered
returns-clause-answered g c _ =
    let k = c.self.invariant.0 in
    let next = moved c.self.inside.cursors.items c.deref.ensures.value c.index-from.ensures
    c.self.inside.cursors.ok.0 c.len.ensures c.if-actor-len.false c.in-Some.ensures in
    rw (← c.self.view_is) (record {
      line = c.index-line.result.now;
      next = kept_next _ _ _ _ _ _ _ _ _ _ _ _ k c.args.actor _
          (omega (arith, k.cursor_count, c.len.ensures, c.if-actor-len.false)) next c.index-line.result.now c.index-line.ensures;
      number = refl;
      entry = record {
        line = c.index-line.result.now.number;
        actor = c.args.actor;
        reply = c.in-Some-section.reply;
        used = c.in-Some-section.used;
      };
      records = refl;
      lines = refl;
      interval = refl;
      opened = refl;
      missed = refl;
      journal = pushed c.push.result _ _ _ _ c.push.ensures.items c.unwrap.ensures;
      actor = refl;
      later = c.in-Some-section.ensures.does.serves.leaves.grows.later;
      failed = c.forget.ensures;
      cause = λ e. ⊎_elim (λ rose. inl rose) (λ by. inr (by.0, sym c.has-failed.ensures ∙ by.1))
          (c.in-Some-section.ensures.does.serves.leaves.fault e);
      refused = c.in-Some-section.ensures.does.serves.leaves.refused;
      step = λ t. answers g.H.NodeHash.half c.self.inside.script.lines.items c.self.inside.hall.desk.state c.section.new.self.desk.state
          c.index-line.result.now _ _ _ next c.index-line.ensures refl refl
          (c.in-Some-section.ensures.does.serves.step t);
      search = λ t. search_on g.H.NodeHash.half c.self.inside.hall.desk.state c.args.actor c.section.new.searches c.end_search.new.searches
          c.index-line.result.now.command c.in-Some-section.reply c.section.new.self.desk.state _
          (hunt_of c.self.inside.searches.hunts.items c.args.actor) c.self.inside.searches.marks c.self.inside.hall.desk.gets
          c.section.new.self.desk.gets (c.in-Some-section.ensures.does.serves.step t) c.end_search.ensures
          (c.in-Some-section.ensures.does.search t);
      hunts = hunts_on g.H.NodeHash.half g.Sh.B.Backend.tells c.self.inside.hall.desk.state c.section.new.self.desk.state c.args.actor
          c.index-line.result.now.command [] c.section.new.searches c.end_search.new.searches c.in-Some-section.reply c.self.inside.searches
          c.end_search.ensures c.in-Some-section.ensures.does.shares.others;
      slices = c.in-Some-section.ensures.does.serves.leaves.slices;
      marks = marks_left g.H.NodeHash.half g.Sh.B.Backend.tells c.self.inside.hall.desk.state c.section.new.self.desk.state c.args.actor
          c.index-line.result.now.command [] c.section.new.searches c.end_search.new.searches c.in-Some-section.reply c.self.inside.searches
          c.end_search.ensures c.in-Some-section.ensures.does.shares.generation c.in-Some-section.ensures.does.idle;
    })

pub returns-in_default-clause-few : goal.returns-in_default-clause-few
returns-in_default-clause-few g c = kept_few _ _ _ _ _ _ _ _ _ _ _ _ c.self.invariant.0

-- the actor has no line from its cursor on, so moving the cursor to the end skips none
pub invariant_of-self : goal.invariant_of-self
invariant_of-self g c =
    let k = c.self.invariant.0 in
    let lines = c.self.inside.script.lines.items in
    let none = moved_end c.self.inside.cursors.items c.deref.ensures.value c.index-from.ensures
    c.self.inside.cursors.ok.0 c.len.ensures c.if-actor-len.false c.in_default.ensures in
    let end : c.len-in_default.result ≡ length lines = omega (arith, c.len-in_default.ensures, c.self.inside.script.lines.ok.0) in (
      kept_moved _ _ _ _ _ _ _ _ _ _ _ _ k c.args.actor _ (omega (arith, k.cursor_count, c.len.ensures, c.if-actor-len.false))
          (omega (arith, end))
          (ap (λ (n : ℕ). numbers_of c.args.actor (take n lines)) end
          ∙ kept_end c.args.actor (slice_index c.self.inside.cursors.items c.args.actor) lines none),
      c.self.invariant.1,
    )

-- the line had no entry before, so there were fewer entries than lines
pub returns-clause-few : goal.returns-clause-few
returns-clause-few g c =
    let k = c.self.invariant.0 in
    let next = moved c.self.inside.cursors.items c.deref.ensures.value c.index-from.ensures
    c.self.inside.cursors.ok.0 c.len.ensures c.if-actor-len.false c.in-Some.ensures in
    let less = kept_less _ _ _ _ _ _ _ _ _ _ _ _ k c.args.actor _
    (omega (arith, k.cursor_count, c.len.ensures, c.if-actor-len.false)) next c.index-line.result.now c.index-line.ensures in
    omega (
      arith,
      less,
      ap length (pushed c.push.result _ _ _ _ c.push.ensures.items c.unwrap.ensures),
      simp length-append at
          (ap length (pushed c.push.result _ _ _ _ c.push.ensures.items c.unwrap.ensures)),
    )

-- the lines are those of 64 actors, so an actor past the last one has none
pub returns-then-actor-len-clause-finished : goal.returns-then-actor-len-clause-finished
returns-then-actor-len-clause-finished g c = (
  λ _. rw (← c.self.view_is)
      (kept_past _ _ _ _ _ _ _ _ _ _ _ _ c.self.invariant.0 c.args.actor
      (omega (arith, c.self.invariant.0.cursor_count, c.len.ensures, c.if-actor-len.true))),
  λ _. refl,
)

pub returns-then-actor-len-clause-blocked : goal.returns-then-actor-len-clause-blocked
returns-then-actor-len-clause-blocked g c =
    ((λ e. cc), (λ blocked. absurd (done_free _ _ c.args.actor ((returns-then-actor-len-clause-finished g c).0 refl) blocked)))

pub returns-then-actor-len-clause-few : goal.returns-then-actor-len-clause-few
returns-then-actor-len-clause-few g c = rw (← c.self.view_is) (kept_few _ _ _ _ _ _ _ _ _ _ _ _ c.self.invariant.0)

-- ---- what a section copies
pub returns-in_default-section-clause-copies : goal.returns-in_default-section-clause-copies
returns-in_default-section-clause-copies g c told part =
    let k = c.self.invariant.0 in
    let next = moved c.self.inside.cursors.items c.deref.ensures.value c.index-from.ensures
    c.self.inside.cursors.ok.0 c.len.ensures c.if-actor-len.false c.in-Some.ensures in
    let is = kept_next _ _ _ _ _ _ _ _ _ _ _ _ k c.args.actor _
    (omega (arith, k.cursor_count, c.len.ensures, c.if-actor-len.false)) next c.index-line.result.now c.index-line.ensures in
    rw (← c.self.view_is) (⊎_elim
    (λ last. inl (record { line = c.index-line.result.now; next = is; swap = last.0; sliced = last.1 }))
    (λ copied. inr copied)
    (c.in_default-section.ensures.does.few told part))

pub returns-clause-copies : goal.returns-clause-copies
returns-clause-copies g c told part =
    let k = c.self.invariant.0 in
    let next = moved c.self.inside.cursors.items c.deref.ensures.value c.index-from.ensures
    c.self.inside.cursors.ok.0 c.len.ensures c.if-actor-len.false c.in-Some.ensures in
    let is = kept_next _ _ _ _ _ _ _ _ _ _ _ _ k c.args.actor _
    (omega (arith, k.cursor_count, c.len.ensures, c.if-actor-len.false)) next c.index-line.result.now c.index-line.ensures in
    rw (← c.self.view_is) (⊎_elim
    (λ last. inl (record { line = c.index-line.result.now; next = is; swap = last.0; sliced = last.1 }))
    (λ copied. inr copied)
    (c.in-Some-section.ensures.does.few told part))

pub returns-in_default-clause-copies : goal.returns-in_default-clause-copies
returns-in_default-clause-copies g c told part = core_same c.args.actor _ _ c.self.view_is

pub returns-then-not-is_answered-clause-copies : goal.returns-then-not-is_answered-clause-copies
returns-then-not-is_answered-clause-copies g c told part = core_same c.args.actor _ _ c.self.view_is

pub returns-then-actor-len-clause-copies : goal.returns-then-actor-len-clause-copies
returns-then-actor-len-clause-copies g c told part = core_same c.args.actor c.args.self.now c.args.self.now refl

-- ---- what searches share
pub section-requires-clause-searches : goal.section-requires-clause-searches
section-requires-clause-searches g c _ _ = c.self.invariant.1.kept

pub end_search-requires-clause-paired : goal.end_search-requires-clause-paired
end_search-requires-clause-paired g c = c.in-Some-section.ensures.does.shares.kept.paired

-- no more generations have ended than there are entries
pub end_search-requires-clause-room : goal.end_search-requires-clause-room
end_search-requires-clause-room g c =
    let k = c.self.invariant.0 in
    let next = moved c.self.inside.cursors.items c.deref.ensures.value c.index-from.ensures
    c.self.inside.cursors.ok.0 c.len.ensures c.if-actor-len.false c.in-Some.ensures in
    let less = kept_less _ _ _ _ _ _ _ _ _ _ _ _ k c.args.actor _
    (omega (arith, k.cursor_count, c.len.ensures, c.if-actor-len.false)) next c.index-line.result.now c.index-line.ensures in
    omega (arith, c.in-Some-section.ensures.does.shares.generation, c.self.invariant.1.young, less, k.servable.few)

-- the actor is a known one
pub section-requires-clause-known : goal.section-requires-clause-known
section-requires-clause-known g c _ _ = omega (arith, c.self.invariant.0.cursor_count, c.len.ensures, c.if-actor-len.false)

pub end_search-requires-clause-known : goal.end_search-requires-clause-known
end_search-requires-clause-known g c = omega (arith, c.self.invariant.0.cursor_count, c.len.ensures, c.if-actor-len.false)

-- ---- what a section asks the backends
pub returns-in_default-section-clause-asks : goal.returns-in_default-section-clause-asks
returns-in_default-section-clause-asks g c part =
    let k = c.self.invariant.0 in
    let next = moved c.self.inside.cursors.items c.deref.ensures.value c.index-from.ensures
    c.self.inside.cursors.ok.0 c.len.ensures c.if-actor-len.false c.in-Some.ensures in
    let is = kept_next _ _ _ _ _ _ _ _ _ _ _ _ k c.args.actor _
    (omega (arith, k.cursor_count, c.len.ensures, c.if-actor-len.false)) next c.index-line.result.now c.index-line.ensures in
    rw (← c.self.view_is)
    (asked_few c.self.inside.script.lines.items c.self.inside.journal.items c.args.actor
    (hunt_of c.self.inside.searches.hunts.items c.args.actor) c.self.inside.searches.marks.generation c.self.inside.hall.desk.gets
    c.section.new.self.desk.gets c.index-line.result.now is (c.in_default-section.ensures.does.shares.few part))

pub returns-clause-asks : goal.returns-clause-asks
returns-clause-asks g c part =
    let k = c.self.invariant.0 in
    let next = moved c.self.inside.cursors.items c.deref.ensures.value c.index-from.ensures
    c.self.inside.cursors.ok.0 c.len.ensures c.if-actor-len.false c.in-Some.ensures in
    let is = kept_next _ _ _ _ _ _ _ _ _ _ _ _ k c.args.actor _
    (omega (arith, k.cursor_count, c.len.ensures, c.if-actor-len.false)) next c.index-line.result.now c.index-line.ensures in
    rw (← c.self.view_is)
    (asked_few c.self.inside.script.lines.items c.self.inside.journal.items c.args.actor
    (hunt_of c.self.inside.searches.hunts.items c.args.actor) c.self.inside.searches.marks.generation c.self.inside.hall.desk.gets
    c.section.new.self.desk.gets c.index-line.result.now is (c.in-Some-section.ensures.does.shares.few part))

pub returns-in_default-clause-asks : goal.returns-in_default-clause-asks
returns-in_default-clause-asks g c part = asked_none c.args.actor _ _ c.self.view_is

pub returns-then-not-is_answered-clause-asks : goal.returns-then-not-is_answered-clause-asks
returns-then-not-is_answered-clause-asks g c part = asked_none c.args.actor _ _ c.self.view_is

pub returns-then-actor-len-clause-asks : goal.returns-then-actor-len-clause-asks
returns-then-actor-len-clause-asks g c part = asked_none c.args.actor c.args.self.now c.args.self.now refl

-- ---- what a reader hands in
-- it is taken where the line asks for that job, and the entry is of that line
pub returns-clause-takes : goal.returns-clause-takes
returns-clause-takes g c h is asked =
    let k = c.self.invariant.0 in
    let next = moved c.self.inside.cursors.items c.deref.ensures.value c.index-from.ensures
    c.self.inside.cursors.ok.0 c.len.ensures c.if-actor-len.false c.in-Some.ensures in
    let free : c.index-line.result.now.after ≢ 0 → is_answered c.self.inside.journal.items c.index-line.result.now.after ≡ true =
    (let same = same_line c.self.inside.script.lines.items _ c.index-line.result.now c.index.result.now next.within c.index-line.ensures
    c.index.ensures in λ waits.
    elim c.else-after-ne0.branch [
      | else-after-ne0-via-then-after-ne0+else-not-is_answered w ↦
          ap (λ (l : Line). is_answered c.self.inside.journal.items l.after) same
          ∙ (sym (rw (← c.self.view_is) at w.is_answered.ensures) ∙ w.if-not-is_answered.false)
      | else-after-ne0-via-else-after-ne0 w ↦ absurd (waits (ap (λ (l : Line). l.after) same ∙ w.if-after-ne0.false))
    ]) in
    let job = job_next (root_by c.self.inside.hall.views) c.self.inside.script.lines.items c.self.inside.journal.items c.args.actor
    c.index-line.result.now
    (kept_next _ _ _ _ _ _ _ _ _ _ _ _ k c.args.actor _
    (omega (arith, k.cursor_count, c.len.ensures, c.if-actor-len.false)) next c.index-line.result.now c.index-line.ensures) free in
    rw (← c.self.view_is)
    (takes_in g.H.NodeHash.half h.job h.got c.self.inside.journal.items _ _
    (pushed c.push.result _ _ _ _ c.push.ensures.items c.unwrap.ensures)
    (c.in-Some-section.ensures.takes h is (sym job ∙ rw (← c.self.view_is) at asked)))

-- a section that leaves something took nothing
pub returns-in_default-section-clause-takes : goal.returns-in_default-section-clause-takes
returns-in_default-section-clause-takes g c h is asked =
    let k = c.self.invariant.0 in
    let next = moved c.self.inside.cursors.items c.deref.ensures.value c.index-from.ensures
    c.self.inside.cursors.ok.0 c.len.ensures c.if-actor-len.false c.in-Some.ensures in
    let free : c.index-line.result.now.after ≢ 0 → is_answered c.self.inside.journal.items c.index-line.result.now.after ≡ true =
    (let same = same_line c.self.inside.script.lines.items _ c.index-line.result.now c.index.result.now next.within c.index-line.ensures
    c.index.ensures in λ waits.
    elim c.else-after-ne0.branch [
      | else-after-ne0-via-then-after-ne0+else-not-is_answered w ↦
          ap (λ (l : Line). is_answered c.self.inside.journal.items l.after) same
          ∙ (sym (rw (← c.self.view_is) at w.is_answered.ensures) ∙ w.if-not-is_answered.false)
      | else-after-ne0-via-else-after-ne0 w ↦ absurd (waits (ap (λ (l : Line). l.after) same ∙ w.if-after-ne0.false))
    ]) in
    let job = job_next (root_by c.self.inside.hall.views) c.self.inside.script.lines.items c.self.inside.journal.items c.args.actor
    c.index-line.result.now
    (kept_next _ _ _ _ _ _ _ _ _ _ _ _ k c.args.actor _
    (omega (arith, k.cursor_count, c.len.ensures, c.if-actor-len.false)) next c.index-line.result.now c.index-line.ensures) free in
    takes_none g.H.NodeHash.half h.job h.got _ _
    (c.in_default-section.ensures.takes h is (sym job ∙ rw (← c.self.view_is) at asked))

-- an actor that is done or blocked asks for no read
pub returns-in_default-clause-takes : goal.returns-in_default-clause-takes
returns-in_default-clause-takes g c h is asked =
    absurd (done_jobless (root_by c.args.self.now.views) c.args.self.now.lines c.args.self.now.journal c.args.actor h.job
    ((returns-in_default-clause-finished g c).0 refl) asked)

pub returns-then-actor-len-clause-takes : goal.returns-then-actor-len-clause-takes
returns-then-actor-len-clause-takes g c h is asked =
    absurd (done_jobless (root_by c.args.self.now.views) c.args.self.now.lines c.args.self.now.journal c.args.actor h.job
    ((returns-then-actor-len-clause-finished g c).0 refl) asked)

pub returns-then-not-is_answered-clause-takes : goal.returns-then-not-is_answered-clause-takes
returns-then-not-is_answered-clause-takes g c h is asked =
    absurd (blocked_jobless (root_by c.args.self.now.views) c.args.self.now.lines c.args.self.now.journal c.args.actor h.job
    ((returns-then-not-is_answered-clause-blocked g c).0 refl) asked)

-- no entry raises the count of slices
pub returns-clause-slices : goal.returns-clause-slices
returns-clause-slices g c _ =
    rw (← c.self.view_is) (counts_fewer c.index-line.result.now.command c.in-Some-section.reply _ _
    c.in-Some-section.ensures.does.serves.leaves.slices)
