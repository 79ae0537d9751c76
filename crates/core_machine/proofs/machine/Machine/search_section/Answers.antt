-- the search comes before the step
use Rattle.std.proofs.Common.{Ok, map, ap, ◌∙◌}
use Rattle.shamap_node.specs.Nodes.{held}
use Rattle.core_machine.proofs.shared.Serving.{check_done, check_may, check_more, check_refused}
use Rattle.core_machine.proofs.machine.Machine.search_section.Goals as goal

pub seek-requires-clause-filed : goal.seek-requires-clause-filed
seek-requires-clause-filed g c κs within = λ told. (c.requires.may.sound told).forms

pub answer-requires-clause-may : goal.answer-requires-clause-may
answer-requires-clause-may g c κs within =
    check_may g.H.NodeHash.half g.Sh.B.Backend.tells c.args.command.now c.args.self.now c.seek.new.self c.requires.may c.seek.ensures.reads

pub returns-in-Ok-More : goal.returns-in-Ok-More
returns-in-Ok-More g c =
    check_more g.H.NodeHash.half g.Sh.B.Backend.tells c.args.actor c.args.command.now c.args.target.now c.requires.check c.args.part
    c.args.searches.now c.seek.new.searches c.args.self.now c.seek.new.self c.seek.result (rw (← c.self.view_is) c.known.ensures.nodes)
    c.requires.may.told c.seek.ensures
    (c.in-Ok-More.is ∙ ap Ok c.in-Ok-More.field-0-is)

pub returns-in-Ok-Ended : goal.returns-in-Ok-Ended
returns-in-Ok-Ended g c =
    check_done g.H.NodeHash.half g.Sh.B.Backend.tells c.args.actor c.args.command.now c.args.target.now c.requires.check c.args.part
    c.args.searches.now c.seek.new.searches c.args.self.now c.seek.new.self c.seek.result (rw (← c.self.view_is) c.known.ensures.nodes)
    c.requires.may.told c.seek.ensures
    c.in-Ok-Ended.found c.answer.result.0 (map (λ a. held a.value) c.answer.result.1.items) c.answer.new.self
    (c.in-Ok-Ended.is ∙ ap Ok c.in-Ok-Ended.field-0-is) c.answer.ensures

pub returns-in-Err : goal.returns-in-Err
returns-in-Err g c =
    rw (c.unsearched.ensures, c.new.ensures.items)
    (check_refused g.H.NodeHash.half g.Sh.B.Backend.tells c.args.actor c.args.command.now c.args.target.now c.requires.check c.args.part
    c.args.searches.now c.seek.new.searches c.args.self.now c.seek.new.self c.seek.result (rw (← c.self.view_is) c.known.ensures.nodes)
    c.requires.may.told c.seek.ensures
    c.in-Err.fault c.in-Err.is)
