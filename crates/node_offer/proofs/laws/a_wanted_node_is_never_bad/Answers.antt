use Rattle.node_offer.proofs.shared.Wanted.{never_bad}
use Rattle.node_offer.proofs.laws.a_wanted_node_is_never_bad.Goals as goal

pub returns : goal.returns
returns c half nodes target kind path blob n h parent = never_bad half nodes target kind path blob n h parent
