use Rattle.std.proofs.Common.{rules}
use Rattle.swarm_gen.specs.Ledgers.{eight}
use Rattle.swarm_gen.proofs.state.set_number.Goals as goal

pub returns-in_ok-set-in-Ok-clause-items : goal.returns-in_ok-set-in-Ok-clause-items
unfolding eight
returns-in_ok-set-in-Ok-clause-items g c = search rules
