use Rattle.std.proofs.Common.{sym, ◌∙◌}
use Rattle.node_backend.proofs.shared.Tables.{get_entries}
use Rattle.log_shelf.proofs.index.Index.get.Goals as goal

pub returns : goal.returns
returns c = rw (← c.self.view_is) (c.copied.ensures ∙ (c.get.ensures.value
    ∙ sym (get_entries c.self.inside.entries.entries c.args.key.now)))
