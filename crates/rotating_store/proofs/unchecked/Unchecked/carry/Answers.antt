use Rattle.std.proofs.Common.{sym, ◌∙◌}
use Rattle.std.specs.FinSet as set
use Rattle.rotating_store.proofs.Checking.{listed_then, inserted_more, inserted_there, carried_same}
use Rattle.rotating_store.proofs.unchecked.Unchecked.carry.Goals as goal

pub returns-in_ok-insert-clause-carried : goal.returns-in_ok-insert-clause-carried
returns-in_ok-insert-clause-carried c _ = inserted_there (set.from_list c.self.inside.fresh.keys) (set.from_list c.insert.new.self.keys)
    c.args.h.now (listed_then c.self.inside.fresh c.insert.new.self c.args.h.now c.in_ok-insert.ensures.updates)

pub returns-in_ok-insert-clause-more : goal.returns-in_ok-insert-clause-more
returns-in_ok-insert-clause-more c = rw (← c.self.view_is) (λ q has. inserted_more (set.from_list c.self.inside.fresh.keys)
    (set.from_list c.insert.new.self.keys) c.args.h.now q
    (listed_then c.self.inside.fresh c.insert.new.self c.args.h.now c.in_ok-insert.ensures.updates) has)

-- it is one of those from before, so all together are as before
pub returns-in_ok-insert-clause-same : goal.returns-in_ok-insert-clause-same
returns-in_ok-insert-clause-same c = rw (← c.self.view_is) (carried_same (set.from_list c.self.inside.fresh.keys)
    (set.from_list c.insert.new.self.keys) (set.from_list c.self.inside.earlier.keys) c.args.h.now
    (listed_then c.self.inside.fresh c.insert.new.self c.args.h.now c.in_ok-insert.ensures.updates)
    (sym c.is_in.ensures ∙ c.if-is_in.true))
