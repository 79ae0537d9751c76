use Rattle.log_shelf.proofs.Popping.{popped, popped_none}
use Rattle.log_shelf.proofs.recover.Found.pop_first.Goals as goal

pub returns-clause-first : goal.returns-clause-first
returns-clause-first c =
    rw (← c.self.view_is) (popped c.pop_first.result c.self.inside.entries c.pop_first.new.self c.pop_first.ensures.removal
    c.pop_first.ensures.all_above c.pop_first.ensures.ordered)

pub returns-clause-none : goal.returns-clause-none
returns-clause-none c = rw (← c.self.view_is) (popped_none c.pop_first.result c.self.inside.entries c.pop_first.ensures.variant)
