-- The nodes that a map gives, as they are sent.
use Rattle.std.specs.Prelude.{not, List, []}
use Rattle.std.specs.List.{filter}
use Rattle.ledger_spec.specs.declared.Kind.{Kind}
use Rattle.ledger_spec.specs.Bytes.{same_bytes}
use Rattle.map_changes.specs.declared.tracked.PlacedNode.{PlacedNode}
use Rattle.swarm_gen.specs.declared.lines.Sent.{Sent}

-- a node as it is sent
abbrev pub sent : Kind → PlacedNode → Sent
sent kind p = record { kind = kind; id = p.id; blob = p.blob }

-- those below the root
abbrev pub below : List PlacedNode → List PlacedNode
below nodes = filter (λ p. not (same_bytes p.id [])) nodes
