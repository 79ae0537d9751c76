use Rattle.copy_walk.proofs.Moving.{roots_kept}
use Rattle.copy_walk.proofs.laws.what_the_roots_reach_is_kept.Goals as goal

pub returns : goal.returns
returns c = λ s on rule h reach. roots_kept s on rule h reach
