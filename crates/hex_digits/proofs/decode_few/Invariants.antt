use Rattle.hex_digits.specs.Lanes.{AreDecoded}
use Rattle.hex_digits.proofs.decode_few.Given as goal

-- the bytes so far are those of their digits
abbrev pub invariant-bytes : goal.invariant-bytes
invariant-bytes l = AreDecoded l.text l.bytes l.i
