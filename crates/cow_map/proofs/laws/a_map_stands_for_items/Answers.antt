use Rattle.cow_map.proofs.Rising.{finite}
use Rattle.cow_map.proofs.laws.a_map_stands_for_items.Goals as goal

pub returns : goal.returns
returns c = finite
