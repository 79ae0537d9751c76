use Rattle.std.proofs.Common.{◌∙◌, ap, sym}
use Rattle.ledger_spec.specs.Bytes.{Hash}
use Rattle.audit_core.specs.declared.cause.Cause.TheVariants as causes
use Rattle.audit_core.proofs.shared.Behind.{behind_true, behind_false, last_key_is, counted_more}
use Rattle.audit_core.proofs.counting.Counting.add.Goals as goal

pub returns-in-Ok-clause-ok : goal.returns-in-Ok-clause-ok
returns-in-Ok-clause-ok g c kind items counts =
    let passed = c.in-Ok.ensures.passed items counts.passed in (
      behind_true items c.args.key.now passed.0,
      record {
        kind_is = c.in-Ok.ensures.kind ∙ counts.kind_is;
        passed = passed.1;
        number = counted_more items _ c.args.self.now.number c.saturating_add-self.result counts.number c.saturating_add-self.ensures;
      },
    )

pub returns-in-Err-clause-cause : goal.returns-in-Err-clause-cause
returns-in-Err-clause-cause g c kind items counts = (
  behind_false items c.args.key.now (c.in-Err.ensures.cause items counts.passed),
  ap (λ (before : Hash). causes.NotBehind before c.args.key.now) (sym (last_key_is items _ (c.in-Err.ensures.before items counts.passed))),
)
