use Rattle.script_form.proofs.Calls.{no_header}
use Rattle.script_form.proofs.call.base_of.Goals as goal

pub returns-in_default-2 : goal.returns-in_default-2
returns-in_default-2 c = no_header c.args.arguments.now _ (rw c.in_default-2.is at c.in_ok-header.ensures)
