-- What the nodes of the code stand for in the definitions: a leaf or sixteen links, with no memory and no sharing.
use Rattle.std.specs.Prelude.{List, map}
use Rattle.std.specs.declared.alloc.Global.{Global}
use Rattle.std.specs.declared.sync.Arc.{Arc}
use Rattle.cow_map.specs.declared.node.Cow.{Cow}
use Rattle.cow_map.specs.declared.node.Cow.TheVariants as cows
use Rattle.cow_map.specs.Bodies.{Body, leaf, inner}

abbrev pub body_of : Cow → Body
body_of (cows.Leaf item) = leaf item.key item.value
body_of (cows.Inner links) = inner links

abbrev pub bodies_of : List (Arc Cow Global) → List Body
bodies_of nodes = map (λ n. body_of n.value) nodes
