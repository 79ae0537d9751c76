use Rattle.std.proofs.Common.{refl, arith}
use Rattle.script_form.specs.declared.forms.Form.TheVariants as form
use Rattle.script_form.proofs.Calls.{three_words, says_as}
use Rattle.script_form.proofs.call.get_of.Goals as goal

pub returns : goal.returns
returns c =
    says_as form.Get _ _ (c.in_ok-view.view, (c.in_ok-kind.kind, (c.in_ok-key.key, tt))) _
    (three_words c.args.arguments.now _ _ _ (omega (arith, c.in-len3.len_at_least, c.in-len3.len_below)))
    (c.in_ok-view.ensures, (c.in_ok-kind.ensures, (c.in_ok-key.ensures, tt)))
    refl
