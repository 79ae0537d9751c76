use Rattle.std.proofs.Common.{sym, ◌∙◌, length}
use Rattle.hex_digits.proofs.Reading.{refused_sized}
use Rattle.hex_digits.proofs.decode_to_slice.Goals as goal

pub returns-then-not-are_digits-clause-value : goal.returns-then-not-are_digits-clause-value
returns-then-not-are_digits-clause-value c =
    refused_sized c.args.text.now (length c.args.bytes.now)
    (sym c.are_digits.ensures ∙ c.if-not-are_digits.true)
