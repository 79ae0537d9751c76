-- the form that is held is the state's
use Rattle.std.proofs.Common.{◌≡◌, refl, sym, ap, ◌∙◌}
use Rattle.std.specs.FinMap as finite
use Rattle.ledger_spec.specs.Bytes.{Lookup, Nodes}
use Rattle.ledger_spec.specs.Own.{own_forms}
use Rattle.ledger_spec.proofs.shared.Owning.{all_own}
use Rattle.ledger_machine.specs.State.{State, form_in}
use Rattle.rotating_store.proofs.shared.Reading.{stored_notes}
use Rattle.core_machine.proofs.shared.Entries.{IsOver, filed_over}
use Rattle.core_machine.proofs.Starting.{header_found}
use Rattle.core_machine.proofs.tables.Tables.header_of.Goals as goal
use Rattle.core_machine.proofs.tables.Tables.header_of.Goals.{in-Some, in-None}

pub returns-clause-header : goal.returns-clause-header
returns-clause-header g c told =
    let half = g.H.NodeHash.half in
    let s : State = c.args.self.now.state in
    let is : IsOver c.self.inside.store s = rw (← c.self.view_is) (record { nodes = refl; born = refl; epoch = refl }) in
    let held : c.in_ok-form.field-0 ≡ form_in s c.args.target.now =
    c.in_ok-form.ensures.form (told, stored_notes half c.self.inside.store (filed_over half c.self.inside.store s is (c.requires told)))
    ∙ ap (λ (n : Nodes). own_forms half (finite.get n) c.args.target.now) (sym is.nodes)
    ∙ ap (λ (l : Lookup). l c.args.target.now) (all_own half (form_in s) (c.requires told)) in
    elim c.match-branch-2.branch [
      | in-Some w ↦ rw w.result-is (header_found s c.args.target.now w.in-Some.form w.bytes.result.now w.from_form.result
          (sym held ∙ w.in-Some.is) w.bytes.ensures w.from_form.ensures.exact w.from_form.ensures.reads)
      | in-None w ↦ rw w.result-is tt
    ]
