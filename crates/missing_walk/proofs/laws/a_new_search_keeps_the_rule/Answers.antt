use Rattle.missing_walk.proofs.Sliced.{rule_anew}
use Rattle.missing_walk.proofs.laws.a_new_search_keeps_the_rule.Goals as goal

pub returns : goal.returns
returns c half nodes s s' cache m rule new = rule_anew half nodes s s' cache m new.generation new.broken rule
