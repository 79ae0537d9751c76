use Rattle.std.proofs.Common.{ap, sym, ◌∙◌, subst, length, rules}
use Rattle.swarm_gen.specs.Script.{Ledger, ledger_lines, next_waits}
use Rattle.swarm_gen.specs.Adding.{Adds}
use Rattle.swarm_gen.proofs.Making.{some_case}
use Rattle.swarm_gen.proofs.ledgers.add_next.Goals as goal

-- the ledger that was made is the plan's of this sequence, so the lines that were added are its lines
pub returns : goal.returns
returns g c =
    let m = some_case _ _ _ c.in-Some.next c.in-Some.is c.in_ok-next.ensures.made in
    let plan = c.args.plan.now in
    let keys = c.args.keys.now in
    let n = length c.args.lines.now in
    let waits = c.args.behind.now.waits in record {
      earlier = search rules;
      made = sym m.made;
      lines = (
        subst (λ (l : Ledger). Adds c.args.lines.now c.add_ledger.new.self (ledger_lines plan keys l n waits)) m.ledger
            c.in_ok-waits.ensures.lines,
        c.in_ok-waits.ensures.number ∙ ap (λ (l : Ledger). next_waits plan keys l n waits) m.ledger,
      );
      parent = search rules;
      nonzero = search rules;
    }
