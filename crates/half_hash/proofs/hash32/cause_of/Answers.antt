use Rattle.std.proofs.Common.{ap, ◌∙◌}
use Rattle.std.specs.Prelude.{Err}
use Rattle.half_hash.proofs.Digits.{why_not, first_bad_at, odd_or_never}
use Rattle.half_hash.proofs.hash32.cause_of.Goals as goal

pub unreachable-requires : goal.unreachable-requires
unreachable-requires c = odd_or_never c.args.text.now c.args.fault c.requires.digits c.in_default.not-InvalidHexCharacter
    (why_not c.args.text.now c.args.fault c.requires.digits c.requires.fails)

-- 64 bytes are the right length for 32, so the decoder has met a byte that is no digit, and it names the first
pub returns : goal.returns
returns c = (
  c.requires.digits,
  first_bad_at c.args.text.now c.in-InvalidHexCharacter.c c.in-InvalidHexCharacter.index
      (why_not c.args.text.now _ c.requires.digits (c.requires.fails ∙ ap Err c.in-InvalidHexCharacter.is)),
)
