use Rattle.std.proofs.Common.{◌+◌, ◌*◌, ◌∙◌, sym, arith}
use Rattle.half_hash.proofs.Words.{apart, alike}
use Rattle.half_hash.proofs.hash32.order_of.Goals as goal

-- the first words that differ decide
pub returns-then-a-b : goal.returns-then-a-b
returns-then-a-b c = c.cmp.ensures ∙ sym (c.loop-i.invariant ∙ apart c.args.one.now c.args.other.now (8 * c.loop-i.i) c.word-a.result
    c.word-b.result (omega arith) (omega arith) (λ k. c.fits-one k) (λ k. c.fits-other k) c.word-a.ensures c.word-b.ensures c.if-a-b.true)

pub loop-i-preserved : goal.loop-i-preserved
loop-i-preserved c = c.loop-i.invariant ∙ alike c.args.one.now c.args.other.now (8 * c.loop-i.i) (8 * (c.loop-i.i + 1)) c.word-a.result
    c.word-b.result (omega arith) (omega arith) (omega arith) (λ k. c.fits-one k) (λ k. c.fits-other k) c.word-a.ensures c.word-b.ensures
    c.if-a-b.false
