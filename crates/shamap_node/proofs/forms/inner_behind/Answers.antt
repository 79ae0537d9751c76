use Rattle.shamap_node.proofs.Inners.{inner_length_cause, inner_empty_cause, inner_body}
use Rattle.shamap_node.proofs.forms.inner_behind.Goals as goal

pub returns-then-form-ne516-clause-cause : goal.returns-then-form-ne516-clause-cause
returns-then-form-ne516-clause-cause c = inner_length_cause c.args.form.now c.if-form-ne516.true

-- behind the prefix stand 512 bytes, sixteen hashes of 32, so joined again they are these bytes
pub returns-in-Some-clause-inner : goal.returns-in-Some-clause-inner
returns-in-Some-clause-inner c = (
  c.in-Some.inner.valid,
  inner_body c.args.form.now _ c.hashes_in.result c.in-Some.inner.hashes c.if-form-ne516.false
      c.split_at.ensures.back c.hashes_in.ensures c.in-Some.ensures.0,
)

pub returns-in-None-clause-cause : goal.returns-in-None-clause-cause
returns-in-None-clause-cause c = inner_empty_cause c.args.form.now _ c.hashes_in.result c.if-form-ne516.false c.split_at.ensures.back
    c.hashes_in.ensures c.in-None.ensures
