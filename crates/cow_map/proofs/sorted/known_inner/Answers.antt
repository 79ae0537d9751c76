use Rattle.cow_map.proofs.Ends.{two_under}
use Rattle.cow_map.proofs.sorted.known_inner.Goals as goal

pub returns : goal.returns
returns c = two_under c.args.id.now c.args.items.now c.requires.rising c.requires.last c.requires.second c.known.ensures.short
