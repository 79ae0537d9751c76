use Rattle.std.proofs.Common.{inl, inr}
use Rattle.script_form.specs.Records.{nothing_earlier}
use Rattle.script_form.proofs.Stores.{wrong_record, no_cause, stored_at, some_commands, no_commands}
use Rattle.script_form.proofs.store_line.stored.Goals as goal
use Rattle.script_form.proofs.store_line.stored.Goals.{then-not-is_empty-via-then-not-is_empty}
use Rattle.script_form.proofs.store_line.stored.Goals.{then-not-is_empty-via-else-not-is_empty+in_ok-is_fit+then-not-branch}
use Rattle.script_form.proofs.store_line.stored.Goals.{then-not-is_empty-via-else-not-is_empty+in_ok-is_fit+else-not-branch+then-has}

-- the record stands behind a command line, is unfit, or has the hash of an earlier one, and each of these makes it bad
pub returns-then-not-is_empty-clause-cause : goal.returns-then-not-is_empty-clause-cause
returns-then-not-is_empty-clause-cause g c =
    let says = rw c.in-Some.is at c.in_ok-record.ensures in
    wrong_record g.H.NodeHash.half _ _ c.in-Some.record says
    (elim c.then-not-is_empty.branch [
      | then-not-is_empty-via-then-not-is_empty w ↦
          inl (some_commands c.args.commands.now c.is_empty.result c.is_empty.ensures w.if-not-is_empty.true)
      | then-not-is_empty-via-else-not-is_empty+in_ok-is_fit+then-not-branch w ↦
          inr (c.in-Some.record, says, inl (rw w.if-not-branch.true at w.in_ok-is_fit.ensures))
      | then-not-is_empty-via-else-not-is_empty+in_ok-is_fit+else-not-branch+then-has w ↦
          inr (c.in-Some.record, says, inr (rw w.if-has.true at w.has.ensures))
    ])

pub returns-clause-own : goal.returns-clause-own
returns-clause-own g c =
    let says = rw c.in-Some.is at c.in_ok-record.ensures in
    stored_at g.H.NodeHash.half nothing_earlier _ c.in-Some.record says (rw c.if-not-branch.false at c.in_ok-is_fit.ensures)

-- the words say a fit record, with no command line and no record of its hash before it, so no cause is left
pub returns-clause-fine : goal.returns-clause-fine
returns-clause-fine g c =
    let says = rw c.in-Some.is at c.in_ok-record.ensures in
    no_cause g.H.NodeHash.half _ _ c.in-Some.record says
    (no_commands c.args.commands.now c.is_empty.result c.is_empty.ensures c.if-not-is_empty.false)
    (rw c.if-not-branch.false at c.in_ok-is_fit.ensures) (rw c.if-has.false at c.has.ensures)
