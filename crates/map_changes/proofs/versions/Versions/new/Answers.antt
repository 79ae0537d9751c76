use Rattle.std.proofs.Common.{[]}
use Rattle.map_changes.proofs.Tracks.{stands_as, then_items}
use Rattle.map_changes.proofs.versions.Versions.new.Goals as goal

-- a map that stands for nothing has no entry
pub over-requires-after_bounds : goal.over-requires-after_bounds
over-requires-after_bounds g c alive here =
    stands_as g.H.NodeHash.half c.new-tree.result [] (c.new-tree.ensures.stands g.H.NodeHash.half _)

pub returns-clause-items : goal.returns-clause-items
returns-clause-items g c =
    then_items g.H.NodeHash.half c.new-tree.result [] (c.new-tree.ensures.stands g.H.NodeHash.half _) c.over.result c.over.ensures.items
