use Rattle.std.proofs.Common.{refl, arith}
use Rattle.script_form.specs.declared.forms.Form.TheVariants as form
use Rattle.script_form.proofs.Calls.{one_word, says_as}
use Rattle.script_form.proofs.call.tick_of.Goals as goal

pub returns : goal.returns
returns c =
    says_as form.Tick _ _ (c.in_ok-target.target, tt) _
    (one_word c.args.arguments.now _ (omega (arith, c.in-len1.len_at_least, c.in-len1.len_below)))
    (c.in_ok-target.ensures, tt)
    refl
