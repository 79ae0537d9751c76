use Rattle.std.proofs.Common.{sym, ap, ◌∙◌}
use Rattle.std.specs.List.{list_all}
use Rattle.std.proofs.lemmas.List.{take_all}
use Rattle.std.proofs.lemmas.List.Folds.{list_all_more}
use Rattle.hex.specs.Hex.{is_hex_digit}
use Rattle.hex_digits.proofs.are_digits.Goals as goal

pub bytes-preserved : goal.bytes-preserved
bytes-preserved c =
    let more = list_all_more is_hex_digit c.args.text.now c.bytes.i 0 c.bytes-test.true in
    rw (c.bytes.invariant, c.is_digit-good.ensures) (sym more)

pub returns : goal.returns
returns c = c.bytes.invariant ∙ ap (list_all is_hex_digit) (take_all c.bytes.i c.args.text.now c.bytes-test.false)
