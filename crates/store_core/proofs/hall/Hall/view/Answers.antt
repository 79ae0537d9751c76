use Rattle.std.proofs.Common.{map, sym, subst}
use Rattle.ledger_machine.specs.declared.commands.Command.{Command}
use Rattle.ledger_machine.specs.Commands.{MayBeRefused}
use Rattle.ledger_machine.specs.Steps.{Outcomes}
use Rattle.core_machine.specs.Commands.{IsQuiet}
use Rattle.node_backend.specs.declared.back.BackFault.TheVariants as back
use Rattle.shamap_node.specs.Nodes.{held}
use Rattle.store_core.proofs.Pinning.{views_unopened, unopenable}
use Rattle.core_machine.proofs.shared.Serving.{no_fault}
use Rattle.store_core.proofs.Serving.{steps_refused}
use Rattle.store_core.proofs.hall.Hall.view.Goals as goal

-- where a view may not be opened it isn't
pub invariant_of-self : goal.invariant_of-self
invariant_of-self g c told =
    views_unopened g.H.NodeHash.half c.self.inside.machine.state c.answer.new.self.state c.args.actor c.args.view c.args.target.now
    c.answer.result.0 (map (λ a. held a.value) c.answer.result.1.items) c.self.inside.views.entries
    (subst (λ (x : Command). Outcomes g.H.NodeHash.half c.self.inside.machine.state c.args.actor x c.answer.result.0
    (map (λ a. held a.value) c.answer.result.1.items) c.answer.new.self.state) c.requires.is (c.answer.ensures.serves.step told).outcome)
    (unopenable c.self.inside.machine.state c.self.inside.views.entries (c.args.actor, c.args.view) c.args.target.now (c.self.invariant
    told)
    (rw (← c.self.view_is) at (rw c.if-not-is_openable.true at c.is_openable.ensures)))
    (c.self.invariant told)

pub header_of-requires-after_bounds : goal.header_of-requires-after_bounds
header_of-requires-after_bounds g c κs within = λ told. ((rw (← c.self.view_is) at c.requires.may.sound) told).forms

-- only memory was wanted
pub returns-in-Ok-None : goal.returns-in-Ok-None
returns-in-Ok-None g c =
    rw (← c.self.view_is, c.new.ensures.items)
    (steps_refused g.H.NodeHash.half g.Sh.B.Backend.tells c.args.actor c.args.command.now _ _ back.Memory
    (subst IsQuiet (sym c.requires.is) tt) (subst MayBeRefused (sym c.requires.is) tt) c.header_of.ensures.reads (rw (← c.self.view_is) at
    c.requires.may.told)
    (λ e. absurd (no_fault e)))

-- the header wasn't read
pub returns-in-Err : goal.returns-in-Err
returns-in-Err g c =
    rw (← c.self.view_is, c.unread.ensures, c.new-in-Err.ensures.items)
    (steps_refused g.H.NodeHash.half g.Sh.B.Backend.tells c.args.actor c.args.command.now _ _ c.in-Err.fault
    (subst IsQuiet (sym c.requires.is) tt) (subst MayBeRefused (sym c.requires.is) tt) c.header_of.ensures.reads (rw (← c.self.view_is) at
    c.requires.may.told)
    c.in-Err.ensures.fault)
