use Rattle.std.proofs.Common.{arith}
use Rattle.hex_digits.proofs.Fronts.{none_decoded, one_more}
use Rattle.hex_digits.proofs.decode_few.Goals as goal

pub bytes-init : goal.bytes-init
bytes-init c = none_decoded

pub bytes-preserved : goal.bytes-preserved
bytes-preserved c =
    let len = c.bytes.auto.bytes in
    one_more c.args.text.now c.bytes.bytes c.bytes.i c.pair.result (omega (arith, c.requires, c.bytes-test.true))
    (omega (arith, len, c.bytes-test.true)) c.pair.ensures c.bytes.invariant
