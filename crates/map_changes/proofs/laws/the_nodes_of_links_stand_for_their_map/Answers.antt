use Rattle.std.proofs.Common.{[], sym, subst}
use Rattle.ledger_spec.specs.Bytes.{Items}
use Rattle.cow_map.proofs.shared.Filters.{part_root}
use Rattle.map_changes.specs.Trees.{StandsFor}
use Rattle.map_changes.specs.Tracking.{node_at, kid_at, place_of}
use Rattle.map_changes.proofs.Sharing.{share_law}
use Rattle.map_changes.proofs.Reaching.{entries_law}
use Rattle.map_changes.proofs.laws.the_nodes_of_links_stand_for_their_map.Goals as goal

-- all entries lie under the empty path
pub returns-clause-nodes : goal.returns-clause-nodes
returns-clause-nodes c half m items bodies below stands =
    subst (λ (es : Items). StandsFor half m.kind items (node_at half m.kind m.nodes) (kid_at m.nodes) 64 [] (place_of m.top) es)
    (sym (part_root items)) (share_law half m.kind m.nodes bodies items 64 [] m.top items below stands (part_root items))

-- at 64 levels
pub returns-clause-items : goal.returns-clause-items
returns-clause-items c half m items stands = entries_law half m.kind m.nodes 64 [] m.top items stands
