use Rattle.std.proofs.Common.{sym, subst, Option}
use Rattle.std.specs.FinMap as map
use Rattle.ledger_spec.specs.Bytes.{Bytes}
use Rattle.cow_map.specs.Bodies.{CowTree}
use Rattle.cow_map.specs.Trees.{StandsFor}
use Rattle.cow_map.proofs.Freeing.{way_free}
use Rattle.cow_map.proofs.map.CowMap.get.Goals as goal

-- where the map stands for items nothing is in the way, so a read that fails met a fault of the source or want of memory
pub returns-clause-free : goal.returns-clause-free
returns-clause-free g c tells items stands =
    let N = map.get (g.S.NodeSource.stored c.args.source.now) in
    let inside = subst (λ (m : CowTree). StandsFor g.H.NodeHash.half N m items) (sym c.self.view_is) stands in
    way_free (Option Bytes) g.H.NodeHash.half N c.self.inside.kind c.self.inside.nodes c.self.inside.top c.root.result c.args.key.now
    items c.get_at.result c.root.ensures inside (c.get_at.ensures.way tells)
