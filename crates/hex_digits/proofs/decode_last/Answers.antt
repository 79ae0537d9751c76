use Rattle.std.proofs.Common.{◌-◌, length, refl, arith}
use Rattle.hex_digits.proofs.Fronts.{ended}
use Rattle.hex_digits.proofs.decode_last.Goals as goal

pub returns : goal.returns
returns c =
    let same = c.decode_block.auto.bytes in
    ended c.decode_block.result c.args.text.now c.args.bytes.now c.decode_block.new.bytes (length c.args.bytes.now - 16) c.requires.two
    (omega (arith, same)) c.requires.some refl c.decode_block.ensures.more c.decode_block.ensures.bad c.requires.front
