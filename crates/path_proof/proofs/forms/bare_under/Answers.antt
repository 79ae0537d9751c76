use Rattle.std.proofs.Common.{subst, ap, length, arith}
use Rattle.shamap_node.specs.Items.{HasItemCause}
use Rattle.shamap_node.specs.declared.parts.ItemFault.{ItemFault}
use Rattle.path_proof.proofs.Bare.{zero_is_none, long_is_none}
use Rattle.path_proof.proofs.forms.bare_under.Goals as goal

-- a zero hash is no key
pub returns-in-Err-ZeroKey-clause-none : goal.returns-in-Err-ZeroKey-clause-none
returns-in-Err-ZeroKey-clause-none c = λ half same other.
    let cause = subst (λ (why : ItemFault). HasItemCause c.args.own.now c.in_ok-value.value why) c.in-Err-ZeroKey.field-0-is
    c.in-Err-ZeroKey.ensures in
    zero_is_none half c.args.form.now c.args.own.now c.requires same cause

-- too many data
pub returns-in-Err-TooLong-clause-none : goal.returns-in-Err-TooLong-clause-none
returns-in-Err-TooLong-clause-none c = λ half same other.
    let cause = subst (λ (why : ItemFault). HasItemCause c.args.own.now c.in_ok-value.value why) c.in-Err-TooLong.field-0-is
    c.in-Err-TooLong.ensures in
    long_is_none half c.args.form.now c.requires
    (omega (arith, cause.1, cause.2, ap length c.in_ok-value.ensures, c.split_at.ensures.back_len))
