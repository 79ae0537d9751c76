use Rattle.copy_walk.proofs.Moving.{section_rule}
use Rattle.copy_walk.proofs.laws.the_rule_stays_along_a_section.Goals as goal

pub returns : goal.returns
returns c = λ s s' rule moves. section_rule moves rule
