use Rattle.std.proofs.Common.{◌-◌, length}
use Rattle.cow_map.proofs.get.+get_at.Given as goal

abbrev pub decreases-get_at : goal.decreases-get_at
decreases-get_at g l = 64 - length l.id.now
