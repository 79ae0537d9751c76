-- The nodes that a run keeps.
use Rattle.std.specs.Prelude.{◌≡◌, List}
use Rattle.std.specs.declared.sync.Arc.{Arc}
use Rattle.std.specs.declared.vec.Vec.{Vec}
use Rattle.std.specs.declared.alloc.Global.{Global}
use Rattle.shamap_node.specs.declared.Node.{Node}
use Rattle.ledger_spec.specs.Forms.{Held}
use Rattle.path_proof.specs.Paths.{held_nodes}

-- they are these
pub record KeepsNodes (nodes : Vec (Arc Node Global) Global) (used : List Held) : Type 0 where
  pub are : held_nodes nodes.items ≡ used
