use Rattle.std.proofs.Common.{sym}
use Rattle.nib_path.specs.Paths.{id_of_view}
use Rattle.nib_path.proofs.NodeId.id.Goals as goal

pub returns : goal.returns
returns c = sym (id_of_view c.self.inside _ c.self.invariant c.self.view_is)
