use Rattle.std.proofs.Common.{refl, arith}
use Rattle.script_form.specs.declared.forms.Form.TheVariants as form
use Rattle.script_form.proofs.Calls.{one_word, says_as}
use Rattle.script_form.proofs.edit_call.abandon_of.Goals as goal

pub returns : goal.returns
returns c =
    says_as form.Abandon _ _ (c.in_ok-session.session, tt) _
    (one_word c.args.arguments.now _ (omega (arith, c.in-len1.len_at_least, c.in-len1.len_below)))
    (c.in_ok-session.ensures, tt)
    refl
