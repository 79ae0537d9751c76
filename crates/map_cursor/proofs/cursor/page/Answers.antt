use Rattle.std.specs.FinMap as map
use Rattle.map_cursor.proofs.PageLaws.{tells_page}
use Rattle.map_cursor.proofs.cursor.page.Goals as goal

pub returns-clause-tells : goal.returns-clause-tells
returns-clause-tells g c =
    tells_page g.H.NodeHash.half c.known_half.ensures.size c.args.kind c.args.root.now c.args.after.now c.args.n g.S.NodeSource.tells
    (map.get (g.S.NodeSource.stored c.args.source.now)) c.read_page.result c.known_key.ensures
    c.read_page.ensures.page c.read_page.ensures.leaves c.read_page.ensures.held
