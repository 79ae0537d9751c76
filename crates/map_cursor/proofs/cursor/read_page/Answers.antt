use Rattle.std.proofs.Common.{ap}
use Rattle.std.specs.FinMap as map
use Rattle.path_proof.specs.Paths.{held_nodes}
use Rattle.map_cursor.specs.Shown.{items_in, shown}
use Rattle.map_cursor.proofs.PageLaws.{is_page, refused_on, at_root, refused_at_root}
use Rattle.map_cursor.proofs.cursor.read_page.Goals as goal

-- the page was empty and the visit began at the root, so where it ended the reading from the root wants a node
pub returns-in_err-visit-clause-cause : goal.returns-in_err-visit-clause-cause
returns-in_err-visit-clause-cause g c =
    refused_on g.H.NodeHash.half c.args.kind c.args.root.now c.args.after.now g.S.NodeSource.tells
    (map.get (g.S.NodeSource.stored c.args.source.now)) c.args.n
    (shown c.new-page.result) _ c.in_err-visit.field-0.0 c.from_residual.ensures (ap items_in c.new-page.ensures.leaves)
    (refused_at_root g.H.NodeHash.half c.args.kind c.args.root.now c.args.after.now g.S.NodeSource.tells
    (map.get (g.S.NodeSource.stored c.args.source.now)) _ _ c.root.result c.root.ensures c.in_err-visit.ensures.visited)

-- the page was empty and the visit began at the root, so it holds just what its nodes say from the root on
pub returns-clause-page : goal.returns-clause-page
returns-clause-page g c =
    is_page g.H.NodeHash.half c.args.kind c.args.root.now c.args.after.now g.S.NodeSource.tells
    (map.get (g.S.NodeSource.stored c.args.source.now)) c.args.n
    (shown c.new-page.result) _ (ap items_in c.new-page.ensures.leaves) (ap held_nodes c.new-page.ensures.used)
    (at_root g.H.NodeHash.half c.args.kind c.args.root.now c.args.after.now g.S.NodeSource.tells
    (map.get (g.S.NodeSource.stored c.args.source.now)) c.args.n _ _ c.root.result c.root.ensures c.in_ok-visit.ensures.visited)
