-- the search is forgotten, and the generation turns
use Rattle.std.proofs.Common.{sym, ap, ◌∙◌, subst}
use Rattle.ledger_machine.specs.declared.commands.Reply.{Reply}
use Rattle.ledger_machine.specs.declared.commands.Reply.TheVariants as says
use Rattle.core_machine.specs.Checking.{TurnsBy}
use Rattle.store_core.proofs.core_calls.end_search.Goals as goal

pub returns-in-Swapped : goal.returns-in-Swapped
returns-in-Swapped c =
    subst (λ (r : Reply). TurnsBy r c.args.actor c.args.searches.now c.turn.new.self) (sym (c.in-Swap.is ∙ ap says.Swap c.in-Swapped.is))
    (record { between = c.forget.new.self; forgets = c.forget.ensures; turns = c.turn.ensures })
