use Rattle.cow_map.proofs.Wholes.{left_whole}
use Rattle.cow_map.proofs.laws.what_is_left_is_whole.Goals as goal

pub returns : goal.returns
returns c = left_whole
