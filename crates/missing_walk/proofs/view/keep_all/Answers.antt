use Rattle.std.proofs.Common.{◌∙◌, sym, subst}
use Rattle.missing_walk.specs.Pending.{IsOpen}
use Rattle.missing_walk.proofs.Seeing.{put_keeps, keeps_then}
use Rattle.missing_walk.proofs.view.keep_all.Goals as goal

-- one more that is held
pub loop-one-preserved : goal.loop-one-preserved
loop-one-preserved c = record {
  entries = λ half nodes all.
      let item : IsOpen half nodes c.one-item.result = subst (IsOpen half nodes) (sym c.one-item.is)
      (all c.loop-one.one-index c.one-item.result c.loop-one-test.true) in
      keeps_then half nodes c.args.cache.now c.loop-one.cache c.keep.new.cache (c.loop-one.invariant.entries half nodes all)
      (put_keeps half nodes c.loop-one.cache c.keep.new.cache c.one-item.result.at.hash c.one-item.result.node.value
      c.keep.ensures.cache item.held_there);
  generation = c.keep.ensures.generation ∙ c.loop-one.invariant.generation;
}
