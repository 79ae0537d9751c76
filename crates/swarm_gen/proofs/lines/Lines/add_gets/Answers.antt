use Rattle.std.proofs.Common.{◌<◌, length}
use Rattle.swarm_gen.proofs.Adds.{adds_as, gets_more}
use Rattle.swarm_gen.proofs.lines.Lines.add_gets.Goals as goal

pub loop-key-preserved : goal.loop-key-preserved
loop-key-preserved c =
    let i = c.loop-key.key-index in
    let lt : i < length c.args.keys.now = c.loop-key-test.true in
    adds_as _ _ _ _ _ _ (gets_more c.args.keys.now i c.key-item.result lt c.key-item.is) c.loop-key.invariant c.in_ok-say.ensures
