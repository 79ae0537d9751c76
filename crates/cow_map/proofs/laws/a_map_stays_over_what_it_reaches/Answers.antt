use Rattle.cow_map.proofs.Moving.{stays}
use Rattle.cow_map.proofs.laws.a_map_stays_over_what_it_reaches.Goals as goal

pub returns : goal.returns
returns c = stays
