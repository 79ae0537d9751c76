use Rattle.std.proofs.Common.{map, subst}
use Rattle.ledger_machine.specs.declared.commands.Command.{Command}
use Rattle.ledger_machine.specs.Steps.{Outcomes}
use Rattle.shamap_node.specs.Nodes.{held}
use Rattle.store_core.proofs.Pinning.{views_less}
use Rattle.store_core.proofs.hall.Hall.unview.Goals as goal

-- one entry is taken out
pub invariant_of-self : goal.invariant_of-self
invariant_of-self g c told =
    views_less g.H.NodeHash.half c.self.inside.machine.state c.answer-answered.new.self.state c.args.actor c.args.view
    c.answer-answered.result.0
    (map (λ a. held a.value) c.answer-answered.result.1.items) c.self.inside.views.entries c.remove.new.self.entries
    (subst (λ (x : Command). Outcomes g.H.NodeHash.half c.self.inside.machine.state c.args.actor x c.answer-answered.result.0
    (map (λ a. held a.value) c.answer-answered.result.1.items) c.answer-answered.new.self.state) c.requires.is
    (c.answer-answered.ensures.serves.step told).outcome)
    c.remove.ensures.entries (c.self.invariant told)
