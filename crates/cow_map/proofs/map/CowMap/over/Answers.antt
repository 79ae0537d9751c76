use Rattle.std.proofs.Common.{sym, subst, []}
use Rattle.ledger_spec.specs.Findings.{items_of}
use Rattle.cow_map.specs.Trees.{StandsAt}
use Rattle.cow_map.proofs.Committing.{over_law}
use Rattle.cow_map.proofs.map.CowMap.over.Goals as goal

-- the map has no node of its own, only the link to the root, whose tree is whole in the source, so it stands for its leaves
pub returns-clause-stands : goal.returns-clause-stands
returns-clause-stands c half stored size whole =
    subst (λ ns. StandsAt half stored c.args.kind ns 64 [] c.to.result (items_of half stored c.args.kind c.args.root.now))
    (sym c.new.ensures)
    (subst (λ l. StandsAt half stored c.args.kind [] 64 [] l (items_of half stored c.args.kind c.args.root.now)) (sym c.to.ensures)
    (over_law half size stored c.args.kind c.args.root.now whole))
