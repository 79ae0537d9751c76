use Rattle.std.proofs.Common.{◌-◌, length}
use Rattle.cow_map.proofs.put.+put_at.Given as goal

abbrev pub decreases-put_at : goal.decreases-put_at
decreases-put_at g l = 64 - length l.id.now
