use Rattle.std.proofs.Common.{length, arith}
use Rattle.hex_digits.proofs.Fronts.{sized}
use Rattle.hex_digits.proofs.decode_over.Goals as goal

pub returns : goal.returns
returns c =
    sized c.decode_digits.result c.args.text.now c.decode_digits.new.bytes (length c.args.bytes.now)
    (omega arith) c.decode_digits.ensures
