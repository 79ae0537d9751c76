use Rattle.cow_build.proofs.Cuts.{cut_more}
use Rattle.cow_build.proofs.cut.cut.Goals as goal

-- the keys rise, so all that have this first nibble stand in front, and behind them the nibbles are greater
pub loop-b-preserved : goal.loop-b-preserved
loop-b-preserved c =
    let front = rw c.deref.ensures.value at c.front_len-n.ensures.front in
    let next = rw c.deref.ensures.value at c.front_len-n.ensures.next in
    let small = rw c.deref.ensures.value at c.front_len-n.ensures.small in
    cut_more c.args.items.items c.loop-b.parts.items c.push.new.self.items c.loop-b.rest.items c.in_ok-behind.behind.items c.loop-b.b
    c.front_len-n.result c.split_off.new.self c.requires c.in_ok-push.ensures.items c.in_ok-behind.ensures.items
    c.in_ok-behind.ensures.tail
    front next small c.loop-b.invariant
