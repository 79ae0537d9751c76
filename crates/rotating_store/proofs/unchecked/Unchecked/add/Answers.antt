use Rattle.std.proofs.Common.{ap}
use Rattle.rotating_store.proofs.Checking.{listed_then, with_fresh}
use Rattle.rotating_store.proofs.unchecked.Unchecked.add.Goals as goal

pub returns-clause-added : goal.returns-clause-added
returns-clause-added c = rw (← c.self.view_is) (ap (with_fresh c.self.inside.earlier)
    (listed_then c.self.inside.fresh c.insert.new.self c.args.h.now c.in_ok-insert.ensures.updates))
