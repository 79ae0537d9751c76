use Rattle.std.proofs.Common.{◌+◌, ◌*◌, sym, ◌∙◌, arith}
use Rattle.nib_path.specs.Paths.{nibbles, length-nibbles}
use Rattle.nib_path.proofs.Firsts.{high_half, low_half, past_byte}
use Rattle.nib_path.proofs.Reading.{first_set_from-end}
use Rattle.nib_path.proofs.digits.first_set_byte.Goals as goal

-- of a byte that isn't zero, the low half is the first that is set where the byte is below 16, and else the high one
pub returns-then-byte-lt16 : goal.returns-then-byte-lt16
returns-then-byte-lt16 c =
    low_half c.args.id.now c.loop-at.at (2 * c.loop-at.at + 1) (omega arith) (omega arith) (omega arith) (omega arith) (omega arith)
    ∙ sym c.loop-at.invariant

pub returns-else-byte-lt16 : goal.returns-else-byte-lt16
returns-else-byte-lt16 c =
    high_half c.args.id.now c.loop-at.at (2 * c.loop-at.at) (omega arith) (omega arith) (omega arith) (omega arith)
    ∙ sym c.loop-at.invariant

pub loop-at-preserved : goal.loop-at-preserved
loop-at-preserved c =
    c.loop-at.invariant
    ∙ past_byte c.args.id.now c.loop-at.at (2 * (c.loop-at.at + 1)) (omega arith) (omega arith) (omega arith) (omega arith)

pub returns : goal.returns
returns c = sym (c.loop-at.invariant ∙ first_set_from-end (2 * c.loop-at.at) (nibbles c.args.id.now)
    (omega (arith, length-nibbles c.args.id.now)))
