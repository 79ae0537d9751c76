use Rattle.cow_map.specs.Gathered.{entries_of, nothing_held}
use Rattle.map_changes.proofs.Tracks.{stands_as, then_items}
use Rattle.map_changes.proofs.versions.Versions.from_sorted.Goals as goal

-- the map stands for its items, so they are its entries
pub over-requires-after_bounds : goal.over-requires-after_bounds
over-requires-after_bounds g c alive here =
    stands_as g.H.NodeHash.half c.in_ok-tree.tree (entries_of c.args.items.items)
    (c.in_ok-tree.ensures.stands g.H.NodeHash.half nothing_held)

pub returns-clause-items : goal.returns-clause-items
returns-clause-items g c =
    then_items g.H.NodeHash.half c.in_ok-tree.tree (entries_of c.args.items.items)
    (c.in_ok-tree.ensures.stands g.H.NodeHash.half nothing_held) c.over.result c.over.ensures.items
