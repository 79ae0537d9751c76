use Rattle.std.proofs.Common.{◌≡◌, ◌<◌, ◌+◌, arith, length, ℕ, List, sym, ap, ◌∙◌, subst, rules, replicate, slice_index}
use Rattle.std.proofs.lemmas.List.{get_or-replicate}
use Rattle.std.proofs.lemmas.Grind.{common_steps}
use Rattle.std.specs.FinMap as map
use Rattle.ledger_machine.specs.declared.commands.Record.{Record}
use Rattle.ledger_machine.specs.Records.{with_records}
use Rattle.ledger_machine.specs.State.{State}
use Rattle.rotating_store.specs.Stores.{Store, nodes_of}
use Rattle.core_machine.specs.Dumping.{HoldsOf}
use Rattle.store_core.proofs.Checks.{keeps_new}
use Rattle.store_core.proofs.Journals.{kept_open}
use Rattle.store_core.proofs.Entries.{over_open}
use Rattle.store_core.proofs.core_calls.Core.open.Goals as goal

-- the store holds the records, and nothing else
pub returns-clause-opened : goal.returns-clause-opened
returns-clause-opened g c = record {
  counted = c.faults-opened.ensures ∙ sym c.new-hall.ensures.faults;
  since = search (rules, common_steps);
  state = λ told.
      let stored = c.in-Ok.ensures.stored told in
      c.new-hall.ensures.state
      ∙ over_open c.put_records.new.store c.args.interval (with_records map.empty c.args.script.records.items)
      (stored.0 ∙ ap (with_records map.empty) c.deref.ensures.value) stored.1
      (c.put_records.ensures.later.past.0 ∙ c.in_ok-store.ensures.opened.state.0);
}

-- the store that is handed back is the one that the records were put into
pub returns-in-Err-Fault-clause-store : goal.returns-in-Err-Fault-clause-store
returns-in-Err-Fault-clause-store g c s same =
    let stays : c.put_records.new.store ≡ s = cc in
    record {
      rose = search (rules, common_steps);
      held = λ told. subst (λ (rs : List Record). HoldsOf rs (nodes_of s)) c.deref.ensures.value
          (subst (λ (x : Store). HoldsOf c.deref.result.now (nodes_of x)) stays (c.put_records.ensures.held told));
    }

-- each cursor stands before the first line
at_start : (cursors : List ℕ) (a : ℕ) → cursors ≡ replicate 64 0 → a < 64 → slice_index cursors a ≡ 0
at_start cursors a is low = ap (λ (xs : List ℕ). slice_index xs a) is ∙ get_or-replicate 64 a 0 0 low

-- nothing was answered and every cursor stands before the first line, which fits the empty journal and the opening state
pub invariant_of-result : goal.invariant_of-result
invariant_of-result g c = (
  kept_open g.H.NodeHash.half c.args.script.records.items c.args.script.lines.items c.in-Ok-vec.cursors.items
      c.in-Ok-with_capacity.journal.items _ c.args.interval g.Sh.B.Backend.tells _ _ (0 + length c.in-Ok-new-2.failed)
      c.new-hall.result.desk.state (omega (arith, ap length c.in-Ok-new-2.ensures))
      c.in-Ok-with_capacity.ensures.items (search (rules, common_steps)) (λ a l. at_start c.in-Ok-vec.cursors.items a
      (c.in-Ok-vec.ensures.items_if_clones_equal (λ y same. same)) l) c.requires.lines
      c.requires.records (search (rules, common_steps)) (c.faults-opened.ensures ∙ sym c.new-hall.ensures.faults)
      (ap (λ (s : State). s.listed) c.new-hall.ensures.state) (ap (λ (s : State). s.turning) c.new-hall.ensures.state)
      (ap (λ (s : State). s.epoch) c.new-hall.ensures.state ∙ c.put_records.ensures.later.past.0 ∙ c.in_ok-store.ensures.opened.state.0)
      (returns-clause-opened g c).state,
  keeps_new g.H.NodeHash.half g.Sh.B.Backend.tells c.new-hall.result.desk.state c.in-Ok-with_capacity.journal.items c.in-Ok-new.searches
      c.in-Ok-new.ensures.paired c.in-Ok-new.ensures.empty c.in-Ok-new.ensures.generation,
)
