use Rattle.std.proofs.Common.{◌∙◌}
use Rattle.peer_set.proofs.Unasked.{same_ids}
use Rattle.peer_set.proofs.asked.same_id.Goals as goal

pub returns : goal.returns
returns c = c.eq.ensures ∙ same_ids c.args.id.now c.args.other.now c.known.ensures c.known-2.ensures
