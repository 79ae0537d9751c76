use Rattle.ledger_laws.proofs.shared.Sweeping.{all_swaps_keep}
use Rattle.ledger_laws.proofs.laws.swaps_leave_what_is_kept_or_born.Goals as goal

pub returns : goal.returns
returns c = all_swaps_keep
