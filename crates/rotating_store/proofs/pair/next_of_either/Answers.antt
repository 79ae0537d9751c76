use Rattle.rotating_store.proofs.Nexts.{next_merged}
use Rattle.rotating_store.proofs.pair.next_of_either.Goals as goal

pub returns-clause-next : goal.returns-clause-next
returns-clause-next g c tells = rw c.lesser.ensures (next_merged _ _ _ _ _ (c.in_ok-a.ensures.next tells) (c.in_ok-b.ensures.next tells))
