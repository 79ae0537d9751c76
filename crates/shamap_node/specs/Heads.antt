-- What a leaf's form says beside its data.
use Rattle.std.specs.Prelude.{[]}
use Rattle.ledger_spec.specs.Forms.{Held, leaf}
use Rattle.shamap_node.specs.declared.parts.LeafHead.{LeafHead}

-- a leaf with no data
abbrev pub without_data : Held → Held
without_data (leaf kind key bytes) = leaf kind key []
without_data n = n

abbrev pub held_head : LeafHead → Held
held_head head = leaf head.kind head.key []
