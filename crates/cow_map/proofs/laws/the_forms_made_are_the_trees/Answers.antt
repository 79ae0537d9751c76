use Rattle.cow_map.proofs.Picking.{made_law}
use Rattle.cow_map.proofs.laws.the_forms_made_are_the_trees.Goals as goal

pub returns : goal.returns
returns c = made_law
