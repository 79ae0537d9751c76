use Rattle.std.proofs.Common.{sym, ◌∙◌}
use Rattle.node_backend.proofs.Tables.{get_hashed}
use Rattle.node_backend.proofs.table.NodeTable.get.Goals as goal

pub returns : goal.returns
returns c = rw (← c.self.view_is) (c.get.ensures.value ∙ sym (get_hashed c.self.inside.entries.entries c.args.key.now))
