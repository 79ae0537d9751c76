use Rattle.std.proofs.Common.{◌+◌, ◌<◌, length, arith, ap, sym, ◌∙◌}
use Rattle.ledger_machine.specs.declared.commands.Line.{Line}
use Rattle.store_core.proofs.Journals.{next_found, read_actor}
use Rattle.store_core.proofs.core_calls.next_of.Goals as goal

-- this line is the actor's, and those between the starting place and it are of others
pub returns-then-line-actor : goal.returns-then-line-actor
returns-then-line-actor c =
    let i = c.loop-line.invariant in
    let lt : c.args.from + c.loop-line.line-index < length c.args.lines.now = omega arith in
    rw i.0 (next_found c.args.lines.now c.args.from c.loop-line.line-index c.args.actor lt i.1
    (read_actor c.args.lines.now c.args.from c.loop-line.line-index c.args.actor c.line-item.result lt
    (ap (λ (l : Line). l.actor) (sym c.line-item.is) ∙ c.if-line-actor.true)))
