use Rattle.std.proofs.Common.{◌+◌, ◌*◌, ◌<◌, arith, rules, length, ap, ◌∙◌}
use Rattle.script_form.proofs.Numbers.{decimal_more, digits_more, too_much}
use Rattle.script_form.proofs.words.number.Goals as goal

-- one digit more makes the value ten times itself and the digit, which is still at most the bound
pub loop-digit-preserved : goal.loop-digit-preserved
loop-digit-preserved c =
    let i = c.loop-digit.invariant in
    let lt : c.loop-digit.digit-index < length c.args.word.now = c.loop-digit-test.true in
    record {
      value = decimal_more c.args.word.now c.loop-digit.digit-index _ _ lt i.value
          (ap (λ n. n * 10 + c.from-in-loop-digit.result) c.from.ensures
          ∙ ap (λ n. c.loop-digit.value * 10 + n) c.from-in-loop-digit.ensures);
      within = omega (arith, c.if-next-from.false, c.from-in-loop-digit-2.ensures);
      digits = digits_more c.args.word.now c.loop-digit.digit-index lt i.digits (search rules);
    }

-- the digits up to here already pass the bound, and more digits never make a number less
pub returns-then-next-from : goal.returns-then-next-from
returns-then-next-from c n =
    let i = c.loop-digit.invariant in
    let lt : c.loop-digit.digit-index < length c.args.word.now = c.loop-digit-test.true in
    too_much c.args.word.now (c.loop-digit.digit-index + 1) c.args.most (c.from.result * 10 + c.from-in-loop-digit.result) n
    (decimal_more c.args.word.now c.loop-digit.digit-index _ _ lt i.value
    (ap (λ n. n * 10 + c.from-in-loop-digit.result) c.from.ensures
    ∙ ap (λ n. c.loop-digit.value * 10 + n) c.from-in-loop-digit.ensures))
    (omega (arith, c.if-next-from.true, c.from-in-loop-digit-2.ensures))
