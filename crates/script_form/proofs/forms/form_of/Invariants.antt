use Rattle.std.proofs.Common.{◌≡◌, ◌≢◌, ℕ, ◌<◌, length, get_or}
use Rattle.script_form.specs.declared.forms.Form.{Form}
use Rattle.script_form.specs.declared.forms.TheConstants.{FORMS}
use Rattle.script_form.specs.Commands.{word_in, arguments_in}
use Rattle.script_form.proofs.forms.form_of.Given as goal

abbrev pub invariant-loop-form : goal.invariant-loop-form
invariant-loop-form l = (k : ℕ) (d : Form) → k < l.form-index → l.word ≡ word_in (get_or FORMS k d)
    → l.count ≢ length (arguments_in (get_or FORMS k d))
