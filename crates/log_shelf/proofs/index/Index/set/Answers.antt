use Rattle.std.proofs.Common.{sym, ◌∙◌}
use Rattle.node_backend.proofs.shared.Tables.{get_entries, insert_entries}
use Rattle.log_shelf.proofs.index.Index.set.Goals as goal

pub returns-clause-before : goal.returns-clause-before
returns-clause-before c = rw (← c.self.view_is) (c.in_ok-insert.ensures.old ∙ sym (get_entries c.self.inside.entries.entries c.args.key))

pub returns-clause-ok : goal.returns-clause-ok
returns-clause-ok c = rw (← c.self.view_is) (insert_entries c.self.inside.entries.entries c.insert.new.self.entries c.args.key
    c.args.place c.in_ok-insert.ensures.updates.0)
