use Rattle.copy_walk.proofs.Moving.{swap_fewer, swap_stays, swap_only}
use Rattle.copy_walk.proofs.laws.a_swap_leaves_what_is_kept_or_born.Goals as goal

pub returns-clause-fewer : goal.returns-clause-fewer
returns-clause-fewer c = λ s s' swaps rule h form e. swap_fewer s s' swaps rule h form e

pub returns-clause-stays : goal.returns-clause-stays
returns-clause-stays c = λ s s' swaps rule h kept. swap_stays s s' swaps rule h kept

pub returns-clause-only : goal.returns-clause-only
returns-clause-only c = λ s s' swaps rule h there. swap_only s s' swaps rule h there
