use Rattle.std.proofs.Common.{arith}
use Rattle.script_form.proofs.Calls.{base_state_read, no_state}
use Rattle.script_form.proofs.call.base_state_of.Goals as goal

pub returns-in-Some : goal.returns-in-Some
returns-in-Some c =
    base_state_read c.args.arguments.now _ c.in-Some.state (omega (arith, c.in-len4.len_at_least, c.in-len4.len_below))
    (rw c.in-Some.is at c.in_ok-state.ensures) c.base_of.result c.base_of.ensures

pub returns-in-None : goal.returns-in-None
returns-in-None c =
    no_state c.args.arguments.now _ (omega (arith, c.in-len4.len_at_least, c.in-len4.len_below))
    (rw c.in-None.is at c.in_ok-state.ensures)
