use Rattle.std.proofs.Common.{refl, sym, ap, subst, ◌∙◌, slice_set, take, drop, replicate}
use Rattle.std.specs.Str.{IsAscii}
use Rattle.std.proofs.lemmas.Str.{IsUtf8-from_ascii, IsAscii-append}
use Rattle.hex.specs.Hex.{upper_digits}
use Rattle.hex.proofs.HexLemmas.{IsAscii-encode_with}
use Rattle.journal_text.proofs.Pieces.{ascii_if, upper_ascii}
use Rattle.journal_text.proofs.words.push_key.Goals as goal

-- the space, the digits and the sign are ASCII
pub from_utf8_unchecked-requires : goal.from_utf8_unchecked-requires
from_utf8_unchecked-requires c =
    let space : IsAscii c.split_at_mut-space.result.0.now =
    subst IsAscii (sym c.split_at_mut-space.ensures.front) (ascii_if (take 1 (replicate 66 32)) refl) in
    let digits : IsAscii c.write_digits.new.digits =
    subst IsAscii (sym c.write_digits.ensures) (IsAscii-encode_with upper_digits _ upper_ascii) in
    let sign : IsAscii (slice_set c.split_at_mut-digits.result.1.now 0 61) =
    subst (λ l. IsAscii (slice_set l 0 61)) (sym (c.split_at_mut-digits.ensures.back ∙ ap (λ l. drop 64 l) c.split_at_mut-space.ensures.back))
    (ascii_if (slice_set (drop 64 (drop 1 (replicate 66 32))) 0 61) refl) in
    IsUtf8-from_ascii _ (IsAscii-append _ _ space (IsAscii-append _ _ digits sign))
