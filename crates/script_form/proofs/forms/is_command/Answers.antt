use Rattle.std.proofs.Common.{◌≢◌, ◌<◌, subst, arith}
use Rattle.script_form.specs.declared.forms.Form.{Form}
use Rattle.script_form.specs.Commands.{word_in}
use Rattle.script_form.proofs.Shapes.{form_stands}
use Rattle.script_form.proofs.forms.is_command.Goals as goal

-- every form stands somewhere among those that were tried
pub returns : goal.returns
returns c f =
    let at = form_stands f in
    let tried : at.0 < c.loop-form.form-index = omega (arith, at.1, c.loop-form-test.false) in
    subst (λ (g : Form). c.args.word.now ≢ word_in g) (at.2 f) (c.loop-form.invariant at.0 f tried)
