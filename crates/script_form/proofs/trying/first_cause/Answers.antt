use Rattle.std.proofs.Common.{refl}
use Rattle.script_form.proofs.Order.{none_before, all_met}
use Rattle.script_form.proofs.trying.first_cause.Goals as goal

-- this cause stands, and each one before it in the order was tried and doesn't
pub returns-then-branch : goal.returns-then-branch
returns-then-branch c = record {
  has = rw c.if-branch.true at c.in_ok-text_has.ensures;
  none_before =
      none_before c.args.earlier.now c.args.text.now c.loop-cause.cause-index _ _ c.loop-cause-test.true refl c.loop-cause.invariant;
}

pub unreachable-requires : goal.unreachable-requires
unreachable-requires c =
    c.requires.bad (all_met c.args.earlier.now c.args.text.now c.loop-cause.cause-index c.loop-cause-test.false c.loop-cause.invariant)
