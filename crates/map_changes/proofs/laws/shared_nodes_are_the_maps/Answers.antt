use Rattle.map_changes.proofs.Standings.{shared_map}
use Rattle.map_changes.proofs.laws.shared_nodes_are_the_maps.Goals as goal

pub returns : goal.returns
returns c = shared_map
