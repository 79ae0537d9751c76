use Rattle.cow_map.proofs.Places.{none_from}
use Rattle.cow_map.proofs.link.Links.none.Goals as goal

pub returns : goal.returns
returns c = none_from c.none.result 0 16
