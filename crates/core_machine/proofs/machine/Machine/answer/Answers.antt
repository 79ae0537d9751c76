-- what is done in one go is a step with what it carries
use Rattle.std.proofs.Common.{◌≡◌, [], map, refl, rules, subst}
use Rattle.ledger_machine.specs.Commands.{SeesNoSession, nature_of}
use Rattle.ledger_machine.specs.declared.commands.Command.{Command}
use Rattle.ledger_machine.specs.declared.commands.Command.TheVariants as command
use Rattle.ledger_machine.specs.declared.commands.Nature.TheVariants as natures
use Rattle.shamap_node.specs.Nodes.{held}
use Rattle.core_machine.specs.Commands.{SeesSessions}
use Rattle.core_machine.proofs.Besides.{beside_steady}
use Rattle.core_machine.proofs.shared.Serving.{sessions_steady, steps_by, steps_steady}
use Rattle.core_machine.proofs.machine.Machine.answer.Goals as goal

-- the commands that begin and end a rotation, by their nature
is_begin : (c : Command) → nature_of c ≡ natures.Begin → c ≡ command.Begin
is_begin command.Begin e = refl
is_begin c e = cc

is_swap : (c : Command) → nature_of c ≡ natures.Swap → c ≡ command.Swap
is_swap command.Swap e = refl
is_swap c e = cc

pub returns-in-Begin : goal.returns-in-Begin
returns-in-Begin g c =
    rw (is_begin c.args.command.now (subst (λ n. n ≡ natures.Begin) c.nature.ensures c.in-Begin.is), c.new-in-Begin.ensures.items)
    (steps_by g.H.NodeHash.half g.Sh.B.Backend.tells c.args.actor command.Begin c.args.self.now c.answer_begin.new.self
    c.answer_begin.result []
    c.answer_begin.ensures.acts c.answer_begin.ensures.carries)

pub returns-in-Swap : goal.returns-in-Swap
returns-in-Swap g c =
    rw (is_swap c.args.command.now (subst (λ n. n ≡ natures.Swap) c.nature.ensures c.in-Swap.is), c.new-in-Swap.ensures.items)
    (steps_by g.H.NodeHash.half g.Sh.B.Backend.tells c.args.actor command.Swap c.args.self.now c.answer_swap.new.self c.answer_swap.result
    []
    c.answer_swap.ensures.acts c.answer_swap.ensures.carries)

pub returns-in-Table : goal.returns-in-Table
returns-in-Table g c =
    (steps_steady g.H.NodeHash.half g.Sh.B.Backend.tells c.args.actor c.args.command.now c.args.self.now c.beside.new.self c.beside.result.0
    (map (λ a. held a.value) c.beside.result.1.items)
    (let is : SeesNoSession c.nature.result = search rules in beside_steady c.args.command.now (subst SeesNoSession c.nature.ensures is))
    c.beside.ensures.acts c.beside.ensures.tells c.beside.ensures.names c.requires.may.told)

pub returns-in-View : goal.returns-in-View
returns-in-View g c =
    rw c.new.ensures.items (steps_steady g.H.NodeHash.half g.Sh.B.Backend.tells c.args.actor c.args.command.now c.args.self.now
    c.change.new.self c.change.result []
    (let is : SeesSessions c.nature.result = search rules in sessions_steady c.args.command.now (subst SeesSessions c.nature.ensures is))
    c.change.ensures.acts c.change.ensures.tells c.change.ensures.names c.requires.may.told)

pub change-requires-clause-open : goal.change-requires-clause-open
change-requires-clause-open g c κs within =
    let is : SeesSessions c.nature.result = search rules in subst SeesSessions c.nature.ensures is

pub beside-requires-clause-beside : goal.beside-requires-clause-beside
beside-requires-clause-beside g c κs within =
    let is : SeesNoSession c.nature.result = search rules in subst SeesNoSession c.nature.ensures is
