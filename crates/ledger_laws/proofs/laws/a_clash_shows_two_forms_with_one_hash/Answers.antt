use Rattle.ledger_laws.proofs.shared.Collisions.{entry_shown}
use Rattle.ledger_laws.proofs.laws.a_clash_shows_two_forms_with_one_hash.Goals as goal

pub returns : goal.returns
returns c = entry_shown
