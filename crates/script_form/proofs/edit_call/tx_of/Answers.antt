use Rattle.script_form.proofs.Calls.{texts, tx_says, no_tx}
use Rattle.script_form.proofs.edit_call.tx_of.Goals as goal

pub returns-in-Some : goal.returns-in-Some
returns-in-Some c =
    tx_says (texts c.args.arguments.now) c.in-Some.session c.in-Some.item (rw c.in-Some.is at c.in_ok-session.ensures)

pub returns-in-None : goal.returns-in-None
returns-in-None c = no_tx (texts c.args.arguments.now) (rw c.in-None.is at c.in_ok-session.ensures)
