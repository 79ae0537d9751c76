use Rattle.copy_walk.proofs.Moving.{write_more, root_more}
use Rattle.copy_walk.proofs.laws.little_more_is_kept.Goals as goal

pub returns-clause-write : goal.returns-clause-write
returns-clause-write c = λ s s' h form on w q kept. write_more s s' h form on w q kept

pub returns-clause-root : goal.returns-clause-root
returns-clause-root c = λ s s' h on a q kept. root_more s s' h on a q kept
