use Rattle.std.proofs.Common.{◌≡◌, take}
use Rattle.std.specs.List.{list_all}
use Rattle.hex.specs.Hex.{is_hex_digit}
use Rattle.hex_digits.proofs.are_digits.Given as goal

-- those that were seen decide
abbrev pub invariant-bytes : goal.invariant-bytes
invariant-bytes l = l.good ≡ list_all is_hex_digit (take l.i l.text)
