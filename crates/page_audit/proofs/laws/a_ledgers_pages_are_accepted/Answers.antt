use Rattle.page_audit.proofs.Read.{pages_answered}
use Rattle.page_audit.proofs.laws.a_ledgers_pages_are_accepted.Goals as goal

pub returns : goal.returns
returns c = pages_answered
