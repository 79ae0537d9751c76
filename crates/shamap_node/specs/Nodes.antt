-- What the types of nodes stand for in the definitions, which know of no memory.
use Rattle.std.specs.Prelude.{List, Option, None, Some}
use Rattle.shamap_node.specs.declared.Leaf.{Leaf}
use Rattle.shamap_node.specs.declared.Node.{Node}
use Rattle.shamap_node.specs.declared.Node.TheVariants as variants
use Rattle.shamap_node.specs.declared.parts.Inner.{Inner}
use Rattle.ledger_spec.specs.Bytes.{Hash}
use Rattle.ledger_spec.specs.Forms.{Held, inner, leaf}
use denote.Ref.{Bor}

abbrev pub held_leaf : Leaf → Held
held_leaf l = leaf l.kind l.item.key l.item.value

abbrev pub held : Node → Held
held (variants.Inner i) = inner i.hashes
held (variants.Leaf l) = held_leaf l

-- the branches of the inner node above, if there is one
abbrev pub hashes_above : Option (Bor Inner) → Option (List Hash)
hashes_above None = None
hashes_above (Some parent) = Some parent.now.hashes
