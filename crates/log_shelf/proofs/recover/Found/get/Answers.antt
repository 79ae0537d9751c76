use Rattle.std.proofs.Common.{sym, ◌∙◌}
use Rattle.node_backend.proofs.shared.Tables.{get_entries}
use Rattle.log_shelf.proofs.recover.Found.get.Goals as goal

pub returns : goal.returns
returns c = rw (← c.self.view_is) (c.get.ensures.value ∙ sym (get_entries c.self.inside.entries.entries c.args.key.now))
