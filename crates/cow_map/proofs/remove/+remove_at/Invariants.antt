use Rattle.std.proofs.Common.{◌-◌, length}
use Rattle.cow_map.proofs.remove.+remove_at.Given as goal

abbrev pub decreases-remove_at : goal.decreases-remove_at
decreases-remove_at g l = 64 - length l.id.now
