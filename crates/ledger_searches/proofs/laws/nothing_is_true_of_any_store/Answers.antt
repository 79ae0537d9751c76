use Rattle.ledger_searches.proofs.shared.Running.{true_of_nothing}
use Rattle.ledger_searches.proofs.laws.nothing_is_true_of_any_store.Goals as goal

pub returns : goal.returns
returns c half nodes x none = true_of_nothing half nodes x none
