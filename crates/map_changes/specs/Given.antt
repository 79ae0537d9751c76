-- What is given of a map's nodes.
use Rattle.std.specs.Prelude.{◌≡◌}
use Rattle.ledger_spec.specs.declared.Kind.{Kind}
use Rattle.ledger_spec.specs.Bytes.{Half, Items}
use Rattle.ledger_spec.specs.Forms.{hash_of}
use Rattle.ledger_spec.specs.Tree.{root_of}
use Rattle.ledger_spec.specs.Wire.{wire_of}
use Rattle.map_changes.specs.declared.tracked.PlacedNode.{PlacedNode}
use Rattle.map_changes.specs.declared.tracked.Root.{Root}
use Rattle.map_changes.specs.Placed.{Placed, nodes_of, root_blob}

-- a node's place, its hash, and the wire form that is written
abbrev pub given : Half → Placed → PlacedNode
given half p = record { id = p.path; hash = hash_of half p.node; blob = wire_of p.node }

-- the root of a map that isn't empty
pub record IsRoot (half : Half) (kind : Kind) (items : Items) (root : Root) : Type 0 where
  pub is_hash : root.hash ≡ root_of half kind items
  pub is_blob : root.blob ≡ root_blob (nodes_of half kind items)
