use Rattle.hex_digits.proofs.SideBySide.{joined_is}
use Rattle.hex_digits.proofs.lanes.joined.Goals as goal

pub returns : goal.returns
returns c = joined_is c.args.values c.fits-values.0
