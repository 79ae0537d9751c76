use Rattle.script_form.proofs.Calls.{texts, put_says, no_put}
use Rattle.script_form.proofs.edit_call.put_of.Goals as goal

pub returns-in-Some : goal.returns-in-Some
returns-in-Some c =
    put_says (texts c.args.arguments.now) c.in-Some.session c.in-Some.item (rw c.in-Some.is at c.in_ok-session.ensures)

pub returns-in-None : goal.returns-in-None
returns-in-None c = no_put (texts c.args.arguments.now) (rw c.in-None.is at c.in_ok-session.ensures)
