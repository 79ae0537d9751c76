use Rattle.std.proofs.Common.{subst, sym}
use Rattle.hex_digits.specs.Lanes.{AreValues}
use Rattle.hex_digits.proofs.SideBySide.{all_values, lanes_are}
use Rattle.hex_digits.proofs.lanes.values_of.Goals as goal

pub returns : goal.returns
returns c =
    let v = c.args.digits in
    subst (AreValues v) (sym (lanes_are v c.fits-digits.0)) (all_values v c.fits-digits.1)
