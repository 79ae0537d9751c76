use Rattle.plain_audit.proofs.Read.{ledger_answered}
use Rattle.plain_audit.proofs.laws.a_ledgers_text_is_accepted.Goals as goal

pub returns : goal.returns
returns c = ledger_answered
