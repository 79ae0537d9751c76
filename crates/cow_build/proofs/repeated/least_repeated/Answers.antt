use Rattle.std.proofs.Common.{◌<◌, length, sym, ap, ◌∙◌}
use Rattle.std.specs.Prelude.{is_some}
use Rattle.cow_build.proofs.Repeats.{seen_more, seen_all}
use Rattle.cow_build.proofs.repeated.least_repeated.Goals as goal

-- a key that was in the map before stands twice now, and it is the least such if it is less than the least so far
pub loop-item-preserved : goal.loop-item-preserved
loop-item-preserved c =
    let i = c.loop-item.item-index in
    let lt : i < length c.args.items.now = c.loop-item-test.true in
    seen_more c.args.items.now i c.item-item.result c.key-key.result.now c.loop-item.keys.entries c.insert.new.self.entries
    c.loop-item.least c.with_key-least.result c.is_some.result
    lt (sym c.item-item.is) c.key-key.ensures c.in_ok-before.ensures.entries (c.is_some.ensures ∙ ap is_some c.in_ok-before.ensures.old)
    c.with_key-least.ensures c.loop-item.invariant

pub returns : goal.returns
returns c = seen_all c.args.items.now c.loop-item.item-index c.loop-item.keys.entries c.loop-item.least c.loop-item-test.false
    c.loop-item.invariant
