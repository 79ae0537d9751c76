-- what is retained is whole in what is recovered, so each of its lines is answered as it should be
use Rattle.std.proofs.Common.{◌≡◌, ◌<◌, ◌^◌, List, length, false, arith, refl, sym, ap, ◌∙◌, subst}
use Rattle.std.specs.List.{list_any}
use Rattle.ledger_spec.specs.Bytes.{Hash, Nodes}
use Rattle.ledger_machine.specs.declared.commands.Line.{Line}
use Rattle.script_form.specs.Servable.{AreServable}
use Rattle.stop_run.specs.Leaving.{HoldsForms}
use Rattle.stop_run.specs.Looking.{is_unlucky_entry, lines_for}
use Rattle.stop_run.specs.Opening.{complete_in}
use Rattle.stop_run.proofs.Reopening.{complete_again, lines_servable, reopened_by, retained_nonzero}
use Rattle.stop_run.proofs.reopened.reopen.Goals as goal

pub opened-requires-clause-lines : goal.opened-requires-clause-lines
opened-requires-clause-lines g c κs within =
    let hashes : List Hash = c.in_ok-hashes.hashes.items in
    let same = c.deref.ensures.value in
    let few : length hashes < 2 ^ 31 = subst (λ (hs : List Hash). length hs < 2 ^ 31) same c.in_ok-lines.ensures.few in
    subst (λ (ls : List Line). AreServable ls) (sym (c.in_ok-lines.ensures.lines ∙ ap lines_for same))
    (lines_servable hashes few
    (retained_nonzero g.H.NodeHash.half c.args.core.now.state hashes (c.journal.ensures.kept.machine refl).sound c.in_ok-hashes.ensures))

pub returns-clause-reopened : goal.returns-clause-reopened
returns-clause-reopened g c =
    let same = c.run_actors-core.ensures.same in
    let new = c.in_ok-opened.ensures in
    let none : list_any is_unlucky_entry c.run_actors-core.result.journal ≡ false =
    ap (list_any is_unlucky_entry) (sym c.journal-2.ensures.journal) ∙ sym c.is_refused.ensures ∙ c.if-is_refused.false
    in
    reopened_by g.H.NodeHash.half _ c.args.interval c.args.core.now c.run_actors-core.result c.in_ok-hashes.hashes.items
    c.in_ok-records.records.items c.journal.ensures.kept c.in_ok-hashes.ensures
    (rw (← c.store.ensures.backends.0) (rw (← c.store.ensures.backends.1) c.in_ok-records.ensures.left))
    (subst (λ (nodes : Nodes). HoldsForms g.H.NodeHash.half nodes c.in_ok-records.records.items) c.store.ensures.nodes c.in_ok-records.ensures.holds)
    (same.records ∙ new.records) (same.lines ∙ new.lines ∙ c.in_ok-lines.ensures.lines ∙ ap lines_for c.deref.ensures.value)
    (same.interval ∙ new.interval) c.run_actors-core.ensures.kept c.run_actors-core.ensures.full none

pub returns-clause-whole : goal.returns-clause-whole
returns-clause-whole g c =
    let same = c.run_actors-core.ensures.same in
    let new = c.in_ok-opened.ensures in
    let none : list_any is_unlucky_entry c.run_actors-core.result.journal ≡ false =
    ap (list_any is_unlucky_entry) (sym c.journal-2.ensures.journal) ∙ sym c.is_refused.ensures ∙ c.if-is_refused.false
    in
    let counted : c.totals.result.complete ≡ complete_in c.run_actors-core.result = ap (λ t. t.complete) c.totals.ensures in
    let all = complete_again g.H.NodeHash.half c.args.core.now c.run_actors-core.result c.in_ok-hashes.hashes.items
    c.in_ok-records.records.items c.journal.ensures.kept c.in_ok-hashes.ensures
    (subst (λ (nodes : Nodes). HoldsForms g.H.NodeHash.half nodes c.in_ok-records.records.items) c.store.ensures.nodes c.in_ok-records.ensures.holds)
    (same.records ∙ new.records) (same.lines ∙ new.lines ∙ c.in_ok-lines.ensures.lines ∙ ap lines_for c.deref.ensures.value)
    c.run_actors-core.ensures.kept c.run_actors-core.ensures.full none in
    (counted, omega (arith, c.len.ensures, c.in_ok-hashes.hashes.ok.0, counted, all))
