use Rattle.std.proofs.Common.{refl, arith}
use Rattle.script_form.specs.declared.forms.Form.TheVariants as form
use Rattle.script_form.proofs.Calls.{one_word, says_as}
use Rattle.script_form.proofs.call.unview_of.Goals as goal

pub returns : goal.returns
returns c =
    says_as form.Unview _ _ (c.in_ok-view.view, tt) _
    (one_word c.args.arguments.now _ (omega (arith, c.in-len1.len_at_least, c.in-len1.len_below)))
    (c.in_ok-view.ensures, tt)
    refl
