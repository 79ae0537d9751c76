use Rattle.std.proofs.Common.{◌≡◌, ◌++◌, flat_map, take}
use Rattle.std.specs.String.{string_bytes}
use Rattle.shamap_node.specs.Nodes.{held}
use Rattle.journal_text.specs.Text.{item_text}
use Rattle.journal_text.proofs.reads.push_items.Given as goal

abbrev pub invariant-loop-leaf : goal.invariant-loop-leaf
invariant-loop-leaf l = string_bytes l.text ≡ string_bytes l.initial.text ++ flat_map (λ n. item_text (held n.value))
    (take l.leaf-index l.leaves)
