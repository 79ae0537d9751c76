use Rattle.std.specs.Str.{IsAscii}
use Rattle.std.proofs.lemmas.Str.{IsUtf8-from_ascii}
use Rattle.hex.specs.Hex.{encode_upper, upper_digits}
use Rattle.hex.proofs.HexLemmas.{IsAscii-encode_with}
use Rattle.journal_text.proofs.Pieces.{upper_ascii}
use Rattle.journal_text.proofs.words.push_piece.Goals as goal

-- digits are ASCII
pub from_utf8_unchecked-requires : goal.from_utf8_unchecked-requires
from_utf8_unchecked-requires c =
    let ascii : IsAscii (encode_upper c.args.piece.now) = IsAscii-encode_with upper_digits c.args.piece.now upper_ascii in
    IsUtf8-from_ascii _ (rw (← c.write_digits.ensures) at ascii)
