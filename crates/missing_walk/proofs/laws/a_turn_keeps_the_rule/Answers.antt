use Rattle.missing_walk.proofs.shared.Growing.{rule_turns}
use Rattle.missing_walk.proofs.laws.a_turn_keeps_the_rule.Goals as goal

pub returns : goal.returns
returns c half before after s cache cache' m m' rule none none_marked turned =
    rule_turns half before after s cache cache' m m' rule none none_marked turned
