use Rattle.page_audit.proofs.Told.{accepted_pages}
use Rattle.page_audit.proofs.Twins.{pages_items}
use Rattle.page_audit.proofs.laws.accepted_pages_are_a_ledger.Goals as goal

pub returns : goal.returns
returns c = record { ledger = accepted_pages; items = pages_items }
