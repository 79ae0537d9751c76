use Rattle.std.proofs.Common.{subst}
use Rattle.std.proofs.Common.{◌≡◌, Ok, false}
use Rattle.std.specs.Prelude.{MatchBool}
use Rattle.std.specs.List.{list_all}
use Rattle.hex.specs.Hex.{decode_of, is_hex_digit}
use Rattle.hex_digits.proofs.Reading.{refused}
use Rattle.hex_digits.proofs.decode.Goals as goal

pub returns-else-decode_digits : goal.returns-else-decode_digits
returns-else-decode_digits g c =
    let text = c.args.text.now in
    refused text (subst (λ r. MatchBool r (decode_of text ≡ Ok c.decode_digits.new.bytes) (list_all is_hex_digit text ≡ false))
    c.if-decode_digits.false c.decode_digits.ensures)
