-- a slice first, and then the step
use Rattle.std.proofs.Common.{None, Ok, map, ap, ◌∙◌}
use Rattle.shamap_node.specs.Nodes.{held}
use Rattle.core_machine.proofs.shared.Checks.{found_none}
use Rattle.core_machine.proofs.shared.Serving.{turn_done, turn_may, turn_more, turn_refused}
use Rattle.core_machine.proofs.machine.Machine.turn_section.Goals as goal

pub answer-requires-clause-may : goal.answer-requires-clause-may
answer-requires-clause-may g c κs within =
    turn_may g.H.NodeHash.half g.Sh.B.Backend.tells c.args.command.now c.args.part c.args.self.now c.slice_first.new.self
    c.slice_first.result c.requires.may c.slice_first.ensures

-- it is no check
pub answer-requires-clause-found : goal.answer-requires-clause-found
answer-requires-clause-found g c κs within =
    found_none g.H.NodeHash.half g.Sh.B.Backend.tells c.slice_first.new.self.state c.args.command.now None c.requires.no_check

pub returns-in-Ok-More : goal.returns-in-Ok-More
returns-in-Ok-More g c x kept =
    turn_more g.H.NodeHash.half g.Sh.B.Backend.tells c.args.actor c.args.command.now c.args.part x c.args.self.now
    c.slice_first.new.self c.slice_first.result c.requires.no_check (rw (← c.self.view_is) c.known.ensures.nodes) c.requires.may kept
    c.slice_first.ensures
    (c.in-Ok-More.is ∙ ap Ok c.in-Ok-More.field-0-is)

pub returns-in-Ok-Done : goal.returns-in-Ok-Done
returns-in-Ok-Done g c x kept =
    turn_done g.H.NodeHash.half g.Sh.B.Backend.tells c.args.actor c.args.command.now c.args.part x c.args.self.now
    c.slice_first.new.self c.slice_first.result c.requires.no_check (rw (← c.self.view_is) c.known.ensures.nodes) c.requires.may kept
    c.slice_first.ensures
    c.answer.result.0 (map (λ a. held a.value) c.answer.result.1.items) c.answer.new.self (c.in-Ok-Done.is ∙ ap Ok c.in-Ok-Done.field-0-is)
    c.answer.ensures

pub returns-in-Err : goal.returns-in-Err
returns-in-Err g c x kept =
    rw (c.unread.ensures, c.new.ensures.items)
    (turn_refused g.H.NodeHash.half g.Sh.B.Backend.tells c.args.actor c.args.command.now c.args.part x c.args.self.now
    c.slice_first.new.self c.slice_first.result c.requires.no_check (rw (← c.self.view_is) c.known.ensures.nodes) c.requires.may kept
    c.slice_first.ensures
    c.in-Err.fault c.in-Err.is)
