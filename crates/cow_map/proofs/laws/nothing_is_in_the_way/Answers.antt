use Rattle.cow_map.proofs.Freeing.{free}
use Rattle.cow_map.proofs.laws.nothing_is_in_the_way.Goals as goal

pub returns : goal.returns
returns c = free
