use Rattle.std.proofs.Common.{arith}
use Rattle.script_form.specs.declared.cause.Cause.TheVariants as cause
use Rattle.script_form.proofs.Stores.{too_long, rest_fine, rest_first, alone}
use Rattle.script_form.proofs.store_line.record_of.Goals as goal

pub returns-then-rest-clause-cause : goal.returns-then-rest-clause-cause
returns-then-rest-clause-cause g c =
    (cause.ScriptTooLong, too_long g.H.NodeHash.half c.args.rest.now (omega (arith, c.if-rest.true)), c.number.ensures)

pub returns-in-Ok-stored-clause-fine : goal.returns-in-Ok-stored-clause-fine
returns-in-Ok-stored-clause-fine g c =
    rest_fine g.H.NodeHash.half c.args.rest.now (omega (arith, c.if-rest.false))
    (alone g.H.NodeHash.half c.new.result _ c.args.rest.now c.new.ensures
    (rw c.deref.ensures.value c.in-Ok.ensures) c.in-Ok-stored.ensures.fine)

-- the words have this first cause, and nothing is before them
pub returns-in-Err-Cause-clause-cause : goal.returns-in-Err-Cause-clause-cause
returns-in-Err-Cause-clause-cause g c = (
  c.in-Err-Cause.cause,
  rest_first g.H.NodeHash.half c.new.result _ c.args.rest.now c.in-Err-Cause.cause c.new.ensures (rw c.deref.ensures.value c.in-Ok.ensures)
      (omega (arith, c.if-rest.false)) (rw c.in-Err-Cause.field-0-is at c.in-Err-Cause.ensures.cause),
  c.number-in-Err-Cause.ensures,
)
