use Rattle.ledger_laws.proofs.shared.Throughout.{run_in_order}
use Rattle.ledger_laws.proofs.laws.each_state_of_a_run_is_in_order.Goals as goal

pub returns : goal.returns
returns c = λ half sized. run_in_order half sized
