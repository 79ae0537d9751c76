use Rattle.swarm_gen.specs.Adding.{ledger_from}
use Rattle.std.proofs.Common.{arith}
use Rattle.swarm_gen.proofs.Adds.{ledger_is, next_is, adds_length}
use Rattle.swarm_gen.proofs.lines.Lines.add_ledger.Goals as goal

pub returns : goal.returns
returns c =
    let l = ledger_from c.args.head c.args.state_nodes.items c.args.tx_nodes.items in record {
      earlier = c.in_ok-next.ensures.earlier;
      number = next_is c.args.plan.now c.args.keys.now l c.args.waits c.in_ok-last.last c.in_ok-next.next c.args.self.now _ _
          c.in_ok-last.ensures.number c.in_ok-last.ensures.lines c.in_ok-add_reader.ensures c.in_ok-next.ensures.number;
      lines = ledger_is c.args.plan.now c.args.keys.now l c.args.waits c.in_ok-last.last c.args.self.now _ _ _
          c.in_ok-last.ensures.number c.in_ok-last.ensures.lines c.in_ok-add_reader.ensures c.in_ok-next.ensures.lines;
    }

-- the final check is one of the lines that stand there when the reader's lines come, and when the rotation's come
pub add_reader-requires-clause-earlier : goal.add_reader-requires-clause-earlier
add_reader-requires-clause-earlier c = omega (arith, c.in_ok-last.ensures.number, adds_length _ _ _ c.in_ok-last.ensures.lines)

pub add_rotation-requires-clause-earlier : goal.add_rotation-requires-clause-earlier
add_rotation-requires-clause-earlier c =
    omega (arith, c.in_ok-last.ensures.number, adds_length _ _ _ c.in_ok-last.ensures.lines, adds_length _ _ _ c.in_ok-add_reader.ensures)
