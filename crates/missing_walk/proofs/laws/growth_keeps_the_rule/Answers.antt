use Rattle.missing_walk.proofs.shared.Growing.{rule_grows}
use Rattle.missing_walk.proofs.laws.growth_keeps_the_rule.Goals as goal

pub returns : goal.returns
returns c half before after s cache m up rule = rule_grows half before after up s cache m rule
