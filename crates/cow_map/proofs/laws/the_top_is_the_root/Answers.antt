use Rattle.cow_map.proofs.Sealing.{root_law}
use Rattle.cow_map.proofs.laws.the_top_is_the_root.Goals as goal

pub returns : goal.returns
returns c = root_law
