-- The hashes that a table has.
use Rattle.std.specs.Prelude.{List, []}
use Rattle.ledger_spec.specs.Bytes.{Hash}
use Rattle.shamap_node.specs.declared.Node.{Node}
use Rattle.shamap_node.specs.declared.Node.TheVariants as nodes
use Rattle.cow_map.specs.declared.table.Kept.{Kept}
use Rattle.cow_map.specs.declared.table.Kept.TheVariants as kept

-- the hashes at the branches of a node of the source; a leaf has none
abbrev pub hashes_held : Node → List Hash
hashes_held (nodes.Inner i) = i.hashes
hashes_held (nodes.Leaf l) = []

abbrev pub hashes_in : Kept → List Hash
hashes_in kept.Nowhere = []
hashes_in (kept.Source node) = hashes_held node.value
hashes_in (kept.Made hashes) = hashes.value
