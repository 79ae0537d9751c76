use Rattle.std.proofs.Common.{◌≡◌, ℕ, ◌+◌, ◌*◌, subst, arith}
use Rattle.hex_digits.specs.Lanes.{AreDecoded}
use Rattle.hex_digits.proofs.Fronts.{none_decoded}
use Rattle.hex_digits.proofs.decode_blocks.Goals as goal

pub whole-init : goal.whole-init
whole-init c = none_decoded

pub whole-preserved : goal.whole-preserved
whole-preserved c =
    let sum : c.whole.k * 16 + 16 ≡ (c.whole.k + 1) * 16 = omega arith in
    subst (λ (n : ℕ). AreDecoded c.args.text.now c.decode_block.new.bytes n) sum
    (c.decode_block.ensures.more c.if-not-decode_block.false c.whole.invariant)
