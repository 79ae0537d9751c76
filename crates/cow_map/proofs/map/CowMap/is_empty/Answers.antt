use Rattle.std.proofs.Common.{[], sym, subst}
use Rattle.cow_map.specs.Bodies.{CowTree}
use Rattle.cow_map.specs.Trees.{StandsFor}
use Rattle.cow_map.proofs.Maps.{stands_none, stands_some}
use Rattle.cow_map.proofs.map.CowMap.is_empty.Goals as goal

pub returns-in-Empty : goal.returns-in-Empty
returns-in-Empty c half stored items stands =
    stands_none half stored c.self.inside.kind c.self.inside.nodes 64 [] c.self.inside.top items c.in-Empty.is
    (subst (λ (m : CowTree). StandsFor half stored m items) (sym c.self.view_is) stands)

pub returns-in_default : goal.returns-in_default
returns-in_default c half stored items stands =
    stands_some half stored c.self.inside.kind c.self.inside.nodes 64 [] c.self.inside.top items c.self.invariant c.in_default.not-Empty
    (subst (λ (m : CowTree). StandsFor half stored m items) (sym c.self.view_is) stands)
