use Rattle.map_changes.proofs.Listing.{same_forms}
use Rattle.map_changes.proofs.laws.a_maps_nodes_have_its_forms.Goals as goal

pub returns : goal.returns
returns c = same_forms
