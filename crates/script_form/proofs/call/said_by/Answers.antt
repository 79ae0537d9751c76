use Rattle.script_form.specs.declared.forms.Form.TheVariants as form
use Rattle.script_form.proofs.Calls.{read_as, base_read}
use Rattle.script_form.proofs.call.said_by.Goals as goal

-- of a base reply without roots three words are read, as its form wants
pub returns-in-Base : goal.returns-in-Base
returns-in-Base c = read_as c.args.form form.Base _ _ c.in-Base.is (base_read c.args.arguments.now
    (rw c.in-Base.is at c.requires) _ c.base_of.ensures)
