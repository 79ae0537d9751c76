use Rattle.std.proofs.Common.{◌≢◌, ℕ, ◌<◌, get_or}
use Rattle.script_form.specs.declared.forms.Form.{Form}
use Rattle.script_form.specs.declared.forms.TheConstants.{FORMS}
use Rattle.script_form.specs.Commands.{word_in}
use Rattle.script_form.proofs.forms.is_command.Given as goal

abbrev pub invariant-loop-form : goal.invariant-loop-form
invariant-loop-form l = (k : ℕ) (d : Form) → k < l.form-index → l.word ≢ word_in (get_or FORMS k d)
