use Rattle.std.proofs.Common.{◌*◌}
use Rattle.hex_digits.specs.Lanes.{AreDecoded}
use Rattle.hex_digits.proofs.decode_blocks.Given as goal

-- the blocks so far are decoded
abbrev pub invariant-whole : goal.invariant-whole
invariant-whole l = AreDecoded l.text l.bytes (l.k * 16)
