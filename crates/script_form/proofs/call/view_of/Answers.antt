use Rattle.std.proofs.Common.{refl, arith}
use Rattle.script_form.specs.declared.forms.Form.TheVariants as form
use Rattle.script_form.proofs.Calls.{two_words, says_as}
use Rattle.script_form.proofs.call.view_of.Goals as goal

pub returns : goal.returns
returns c =
    says_as form.View _ _ (c.in_ok-view.view, (c.in_ok-target.target, tt)) _
    (two_words c.args.arguments.now _ _ (omega (arith, c.in-len2.len_at_least, c.in-len2.len_below)))
    (c.in_ok-view.ensures, (c.in_ok-target.ensures, tt))
    refl
