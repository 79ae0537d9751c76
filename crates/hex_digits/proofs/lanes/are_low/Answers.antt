use Rattle.hex_digits.proofs.SideBySide.{marks_are}
use Rattle.hex_digits.proofs.lanes.are_low.Goals as goal

pub returns : goal.returns
returns c = marks_are c.args.values c.fits-values.0
