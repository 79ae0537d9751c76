-- Shared nodes are nodes of a map, but for bare transactions. For proofs of other crates.
use Rattle.std.proofs.Common.{◌≡◌, ◌≢◌, zero, suc, List, [], ◌∷◌, sym, subst, arith}
use Rattle.std.specs.declared.sync.Arc.{Arc}
use Rattle.std.specs.declared.alloc.Global.{Global}
use Rattle.shamap_node.specs.declared.Node.{Node}
use Rattle.shamap_node.specs.declared.Node.TheVariants as node
use Rattle.shamap_node.specs.Nodes.{held}
use Rattle.ledger_spec.specs.declared.Kind.{Kind}
use Rattle.ledger_spec.specs.declared.Kind.TheVariants.{State, Tx, Set}
use Rattle.ledger_spec.specs.Bytes.{Bytes, Half}
use Rattle.ledger_spec.specs.Forms.{IsItem, IsHeld, leaf}
use Rattle.ledger_spec.specs.Reads.{IsNode, AreNodes}
use Rattle.path_proof.specs.Paths.{held_nodes}

-- a leaf of the map's kind has a form, bare transactions apart
leaf_held : (half : Half) (kind own : Kind) (key bytes : Bytes) → kind ≢ Set → IsItem key bytes → own ≡ kind
    → IsHeld half (leaf own key bytes)
leaf_held half kind State key bytes other item same = item
leaf_held half kind Tx key bytes other item same = item
leaf_held half kind Set key bytes other item same = absurd (other (sym same))

pub node_is : (half : Half) (kind : Kind) → kind ≢ Set → (n : Node) → IsNode half kind (held n)
node_is half kind other (node.Inner i) = i.valid
node_is half kind other (node.Leaf l) = leaf_held half kind l.kind l.item.key l.item.value other l.item.valid

pub nodes_are : (half : Half) (kind : Kind) → kind ≢ Set → (used : List (Arc Node Global)) → AreNodes half kind (held_nodes used)
nodes_are half kind other [] n (k, within, is) = absurd (omega arith)
nodes_are half kind other (a ∷ used) n (zero, within, is) = subst (IsNode half kind) is (node_is half kind other a.value)
nodes_are half kind other (a ∷ used) n (suc k, within, is) = nodes_are half kind other used n (k, omega arith, is)
