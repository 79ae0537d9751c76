use Rattle.std.proofs.Common.{◌≡◌, ◌+◌, length, arith}
use Rattle.swarm_gen.specs.Script.{Ledger, acquired}
use Rattle.swarm_gen.specs.Adding.{Adds, ledger_from}
use Rattle.swarm_gen.proofs.Adds.{acquired_as, acquired_last, adds_length}
use Rattle.swarm_gen.proofs.lines.Lines.add_acquired.Goals as goal

-- the lines are said in the ledger's order, and the transaction nodes are counted on from where the state nodes end; the final check is the
-- last of the ledger's lines, so its number is how many lines stand there with it
pub returns : goal.returns
returns c =
    let many : c.len-count.result ≡ length c.args.state_nodes.items = omega (arith, c.len-count.ensures, c.args.state_nodes.ok.0) in
    let l : Ledger = ledger_from c.args.head c.args.state_nodes.items c.args.tx_nodes.items in
    let more = acquired c.args.plan.now l c.args.waits in
    let lines : Adds c.args.self.now c.push.new.self more =
    acquired_as c.args.plan.now l c.args.waits
    c.acquirer-actor.result c.len-count.result
    c.acquirer-actor.ensures.acquirer many c.in_ok-add_opening.ensures c.in_ok-add_nodes.ensures c.in_ok-say.ensures
    c.in_ok-add_nodes-2.ensures
    c.in_ok-last.ensures.line in
    let number : c.in_ok-last.last ≡ length c.args.self.now + length more =
    acquired_last c.args.plan.now l c.args.waits
    c.acquirer-actor.result c.len-count.result c.in_ok-last.last
    c.acquirer-actor.ensures.acquirer many c.in_ok-add_opening.ensures c.in_ok-add_nodes.ensures c.in_ok-say.ensures
    c.in_ok-add_nodes-2.ensures
    c.in_ok-last.ensures.line c.in_ok-last.ensures.number in
    record { earlier = omega (arith, number, adds_length _ _ _ lines); number = number; lines = lines }
