use Rattle.std.proofs.Common.{◌+◌, ◌-◌, ◌/◌, ◌<◌, length, arith}
use Rattle.store_core.proofs.Finding.{below_middle, above_middle}
use Rattle.store_core.proofs.core_calls.first_from.Goals as goal

-- the middle line has a lower number, and numbers rise, so all lines up to it are lower
pub loop-low-preserved-then-lines-middle : goal.loop-low-preserved-then-lines-middle
loop-low-preserved-then-lines-middle c =
    let i = c.loop-low.invariant in
    let middle : c.loop-low.low + (c.loop-low.high - c.loop-low.low) / 2 < length c.args.lines.now =
    omega (arith, i.within, c.loop-low-test.true) in
    record {
      order = omega (arith, c.loop-low-test.true);
      within = i.within;
      below =
          below_middle c.args.lines.now c.requires _ c.args.number _ middle c.if-lines-middle.true;
      above = i.above;
    }

-- the middle line has no lower number, and numbers rise, so no line from it on is lower
pub loop-low-preserved : goal.loop-low-preserved
loop-low-preserved c =
    let i = c.loop-low.invariant in
    let middle : c.loop-low.low + (c.loop-low.high - c.loop-low.low) / 2 < length c.args.lines.now =
    omega (arith, i.within, c.loop-low-test.true) in
    record {
      order = omega arith;
      within = omega (arith, middle);
      below = i.below;
      above =
          above_middle c.args.lines.now c.requires _ c.args.number _ middle c.if-lines-middle.false;
    }
