use Rattle.std.proofs.Common.{◌≡◌, length, arith}
use Rattle.script_form.proofs.Calls.{base_tx_read, state_word, tx_word}
use Rattle.script_form.proofs.call.base_tx_of.Goals as goal

-- the fourth word, the state root's, says no bytes, so the words say no such base reply
pub returns-in_default-2 : goal.returns-in_default-2
returns-in_default-2 c = record {
  none = λ said says.
      let five : length c.args.arguments.now ≡ 5 = omega (arith, c.in-len5.len_at_least, c.in-len5.len_below) in
      let none = rw c.in_default-2.is at c.in_ok-state.ensures in
      let state = state_word c.args.arguments.now _ five said says in
      none state.0 state.1;
}

pub returns-in-Some-2 : goal.returns-in-Some-2
returns-in-Some-2 c =
    base_tx_read c.args.arguments.now _ _ c.in-Some.state c.in-Some-2.tx (omega (arith, c.in-len5.len_at_least, c.in-len5.len_below))
    (rw c.in-Some.is at c.in_ok-state.ensures) (rw c.in-Some-2.is at c.in_ok-tx.ensures) c.base_of.result c.base_of.ensures

-- the fifth word, the transaction root's, says no bytes, so the words say no such base reply
pub returns-in-None : goal.returns-in-None
returns-in-None c = record {
  none = λ said says.
      let five : length c.args.arguments.now ≡ 5 = omega (arith, c.in-len5.len_at_least, c.in-len5.len_below) in
      let none = rw c.in-None.is at c.in_ok-tx.ensures in
      let tx = tx_word c.args.arguments.now _ five said says in
      none tx.0 tx.1;
}
