use Rattle.std.proofs.Common.{arith}
use Rattle.cow_map.proofs.Shifting.{append_more}
use Rattle.cow_map.proofs.arena.Arena.append.Goals as goal

pub loop-at-preserved : goal.loop-at-preserved
loop-at-preserved c =
    append_more c.args.self.now c.loop-at.self c.append_one.new.self c.args.other.now c.loop-at.at c.len-n.result c.loop-at.invariant
    c.len-n.ensures c.in_ok-append_one.ensures (omega arith)
