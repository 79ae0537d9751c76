use Rattle.std.proofs.Common.{◌<◌, List, Option, length, arith, subst}
use Rattle.ledger_spec.specs.Bytes.{Hash}
use Rattle.map_changes.specs.Tracking.{KnowsKids}
use Rattle.map_changes.proofs.Settling.{set_hashes, set_closed}
use Rattle.map_changes.proofs.ahead.settle.Goals as goal

-- the hash is that of the node at its place
pub returns-then-knows_kids-clause-hashes : goal.returns-then-knows_kids-clause-hashes
returns-then-knows_kids-clause-hashes g c =
    let low : c.args.due.now.place < length c.args.map.now.nodes = omega arith in
    set_hashes g.H.NodeHash.half c.args.map.now.kind c.args.map.now.nodes c.known.ensures.nodes c.args.hashes.now.items
    c.args.due.now.place c.args.due.now.hash low c.requires.hash c.requires.hashes

-- and those of its kids are known
pub returns-then-knows_kids-clause-closed : goal.returns-then-knows_kids-clause-closed
returns-then-knows_kids-clause-closed g c =
    set_closed c.args.map.now.nodes c.args.hashes.now.items c.args.due.now.place c.args.due.now.hash
    (subst (λ (hs : List (Option Hash)). KnowsKids c.args.map.now.nodes hs c.args.due.now.place) c.deref.ensures.value
    (c.knows_kids.ensures c.if-knows_kids.true))
    c.requires.closed
