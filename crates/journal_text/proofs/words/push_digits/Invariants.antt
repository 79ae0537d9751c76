use Rattle.std.proofs.Common.{◌≡◌, ◌++◌, length}
use Rattle.std.specs.String.{string_bytes}
use Rattle.hex.specs.Hex.{encode_upper}
use Rattle.journal_text.proofs.words.push_digits.Given as goal

-- what is written, and the digits of the bytes that are left
abbrev pub invariant-loop-rest : goal.invariant-loop-rest
invariant-loop-rest l = string_bytes l.text ++ encode_upper l.rest ≡ string_bytes l.initial.text ++ encode_upper l.bytes

abbrev pub decreases-loop-rest : goal.decreases-loop-rest
decreases-loop-rest l = length l.rest
