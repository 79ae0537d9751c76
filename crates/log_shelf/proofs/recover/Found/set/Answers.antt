use Rattle.node_backend.proofs.shared.Tables.{insert_entries}
use Rattle.log_shelf.proofs.recover.Found.set.Goals as goal

pub returns-clause-ok : goal.returns-clause-ok
returns-clause-ok c = rw (← c.self.view_is) (insert_entries c.self.inside.entries.entries c.insert.new.self.entries c.args.key
    c.args.value c.in_ok-insert.ensures.updates.0)
