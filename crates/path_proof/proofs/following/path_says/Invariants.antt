use Rattle.std.proofs.Common.{◌≡◌, None, length}
use Rattle.ledger_spec.specs.Reads as spec
use Rattle.path_proof.specs.Paths.{held_nodes, last_data}
use Rattle.shamap_node.specs.Nodes.{hashes_above}
use Rattle.path_proof.proofs.following.path_says.Given as goal

-- the rest of the path says what the whole path says, and ends as it does
abbrev pub invariant-loop-node : goal.invariant-loop-node
invariant-loop-node g l = record {
  same : spec.follow_from g.H.NodeHash.half l.kind l.key l.waypoint.depth (hashes_above l.parent) l.waypoint.wanted
      (held_nodes l.rest) ≡ spec.follow_from g.H.NodeHash.half l.kind l.key 0 None l.root (held_nodes l.used);
  ends : last_data (held_nodes l.rest) ≡ last_data (held_nodes l.used);
}

abbrev pub decreases-loop-node : goal.decreases-loop-node
decreases-loop-node g l = length l.rest
