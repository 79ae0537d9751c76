use Rattle.cow_map.proofs.Wholes.{anywhere}
use Rattle.cow_map.proofs.laws.a_map_without_a_source_stands_anywhere.Goals as goal

pub returns : goal.returns
returns c = anywhere
