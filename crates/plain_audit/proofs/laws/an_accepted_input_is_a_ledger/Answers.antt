use Rattle.plain_audit.proofs.shared.Told.{accepted_told, text_items}
use Rattle.plain_audit.proofs.laws.an_accepted_input_is_a_ledger.Goals as goal

pub returns : goal.returns
returns c = record { ledger = accepted_told; items = text_items }
