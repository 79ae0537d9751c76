use Rattle.std.proofs.Common.{◌-◌, length}
use Rattle.cow_map.proofs.put.+split.Given as goal

abbrev pub decreases-split : goal.decreases-split
decreases-split l = 64 - length l.id.now
