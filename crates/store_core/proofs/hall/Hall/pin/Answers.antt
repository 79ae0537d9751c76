use Rattle.std.proofs.Common.{map, sym, subst}
use Rattle.ledger_machine.specs.declared.commands.Command.{Command}
use Rattle.ledger_machine.specs.Commands.{MayBeRefused}
use Rattle.ledger_machine.specs.Steps.{Outcomes}
use Rattle.core_machine.specs.Commands.{IsQuiet}
use Rattle.node_backend.specs.declared.back.BackFault.TheVariants as back
use Rattle.shamap_node.specs.Nodes.{held}
use Rattle.store_core.proofs.Pinning.{views_back, views_more}
use Rattle.core_machine.proofs.shared.Serving.{no_fault}
use Rattle.store_core.proofs.Serving.{steps_refused, reads_self}
use Rattle.store_core.proofs.hall.Hall.pin.Goals as goal

-- nothing was done
pub returns-in_default : goal.returns-in_default
returns-in_default g c =
    rw (← c.self.view_is, c.new.ensures.items)
    (steps_refused g.H.NodeHash.half g.Sh.B.Backend.tells c.args.actor c.args.command.now _ _ back.Memory
    (subst IsQuiet (sym c.requires.is) tt) (subst MayBeRefused (sym c.requires.is) tt) (reads_self g.Sh.B.Backend.tells _) (rw (←
    c.self.view_is) at c.requires.may.told)
    (λ e. absurd (no_fault e)))

-- the machine didn't open the view, so what was kept is taken back
pub invariant_of-self-then-not-is_opened : goal.invariant_of-self-then-not-is_opened
invariant_of-self-then-not-is_opened g c told =
    views_back g.H.NodeHash.half c.self.inside.machine.state c.answer-answered.new.self.state c.args.actor c.args.view c.args.opened
    c.answer-answered.result.0 (map (λ a. held a.value) c.answer-answered.result.1.items) c.self.inside.views.entries
    c.insert.new.self.entries c.remove.new.self.entries
    (subst (λ (x : Command). Outcomes g.H.NodeHash.half c.self.inside.machine.state c.args.actor x c.answer-answered.result.0
    (map (λ a. held a.value) c.answer-answered.result.1.items) c.answer-answered.new.self.state) c.requires.is
    (c.answer-answered.ensures.serves.step told).outcome)
    (rw c.if-not-is_opened.true at c.is_opened.ensures) (rw (← c.self.view_is) at c.requires.closed) c.in-Ok.ensures.entries
    c.remove.ensures.entries (c.self.invariant told)

-- it did, and its header is stored
pub invariant_of-self-else-not-is_opened : goal.invariant_of-self-else-not-is_opened
invariant_of-self-else-not-is_opened g c told =
    views_more g.H.NodeHash.half c.self.inside.machine.state c.answer-answered.new.self.state c.args.actor c.args.view c.args.opened
    c.answer-answered.result.0 (map (λ a. held a.value) c.answer-answered.result.1.items) c.self.inside.views.entries
    c.insert.new.self.entries
    (subst (λ (x : Command). Outcomes g.H.NodeHash.half c.self.inside.machine.state c.args.actor x c.answer-answered.result.0
    (map (λ a. held a.value) c.answer-answered.result.1.items) c.answer-answered.new.self.state) c.requires.is
    (c.answer-answered.ensures.serves.step told).outcome)
    (rw c.if-not-is_opened.false at c.is_opened.ensures) ((rw (← c.self.view_is) at c.requires.header) told) c.in-Ok.ensures.entries
    (c.self.invariant told)
