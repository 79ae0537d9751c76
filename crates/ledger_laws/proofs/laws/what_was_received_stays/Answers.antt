use Rattle.ledger_laws.proofs.shared.Receipts.{all_stay}
use Rattle.ledger_laws.proofs.laws.what_was_received_stays.Goals as goal

pub returns : goal.returns
returns c = all_stay
