use Rattle.std.proofs.Common.{◌∙◌}
use Rattle.nib_path.proofs.Places.{head-eq}
use Rattle.nib_path.proofs.NodeId.holds.Goals as goal

pub returns : goal.returns
returns c =
    c.eq.ensures
    ∙ head-eq c.self.inside c.args.self.now c.head_of.result c.args.key.now c.self.invariant c.self.view_is c.told-key c.head_of.ensures
