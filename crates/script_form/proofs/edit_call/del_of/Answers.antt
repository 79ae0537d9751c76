use Rattle.std.proofs.Common.{refl, arith}
use Rattle.script_form.specs.declared.forms.Form.TheVariants as form
use Rattle.script_form.proofs.Calls.{two_words, says_as}
use Rattle.script_form.proofs.edit_call.del_of.Goals as goal

pub returns : goal.returns
returns c =
    says_as form.Del _ _ (c.in_ok-session.session, (c.in_ok-key.key, tt)) _
    (two_words c.args.arguments.now _ _ (omega (arith, c.in-len2.len_at_least, c.in-len2.len_below)))
    (c.in_ok-session.ensures, (c.in_ok-key.ensures, tt))
    refl
