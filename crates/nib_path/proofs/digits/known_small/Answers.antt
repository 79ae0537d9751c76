use Rattle.nib_path.proofs.shared.Nibbles.{nibbles-below}
use Rattle.nib_path.proofs.digits.known_small.Goals as goal

pub returns : goal.returns
returns c = nibbles-below c.args.id.now (λ k l. c.fits-id k)
