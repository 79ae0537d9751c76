use Rattle.std.proofs.Common.{ℕ, ◌+◌, ◌*◌, List, subst, sym, ◌∙◌}
use Rattle.std.specs.Simd.Lanes.{chunk, put_chunk}
use Rattle.hex_digits.specs.Lanes.{AreDecoded}
use Rattle.hex_digits.proofs.Fronts.{bad_block, bad_piece, block_more}
use Rattle.hex_digits.proofs.decode_block.Goals as goal

pub returns-then-not-are_low-clause-bad : goal.returns-then-not-are_low-clause-bad
returns-then-not-are_low-clause-bad c is =
    let from = 2 * c.args.at in
    bad_piece c.args.text.now from 32
    (bad_block (chunk from 32 c.args.text.now) c.values_of-values.result c.values_of-values.ensures
    (sym c.are_low.ensures ∙ c.if-not-are_low.true))

pub returns-clause-more : goal.returns-clause-more
returns-clause-more c is front =
    let v = c.values_of-values.result in
    let low = sym c.are_low.ensures ∙ c.if-not-are_low.false in
    subst (λ (bytes : List ℕ). AreDecoded c.args.text.now (put_chunk c.args.at c.args.bytes.now bytes) (c.args.at + 16)) (sym c.joined.ensures)
    (block_more c.args.text.now c.args.bytes.now v c.args.at c.requires.two c.requires.within c.values_of-values.ensures low front)
