use Rattle.std.proofs.Common.{◌∙◌}
use Rattle.full_below.proofs.Paths.{same_ids}
use Rattle.full_below.proofs.key.same_id.Goals as goal

pub returns : goal.returns
returns c = c.eq.ensures ∙ same_ids c.args.id.now c.args.other.now c.known.ensures c.known-2.ensures
