use Rattle.ledger_laws.proofs.shared.WholeMaps.{view_map_whole}
use Rattle.ledger_laws.proofs.laws.the_maps_of_a_view_are_whole.Goals as goal

pub returns : goal.returns
returns c = λ half s actor view kind root sound is_map at. view_map_whole half s kind root is_map (actor, view) sound at
