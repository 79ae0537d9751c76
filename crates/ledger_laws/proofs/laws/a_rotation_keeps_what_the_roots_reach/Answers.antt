use Rattle.ledger_laws.proofs.shared.Sweeping.{reached_kept}
use Rattle.ledger_laws.proofs.laws.a_rotation_keeps_what_the_roots_reach.Goals as goal

pub returns : goal.returns
returns c = reached_kept
