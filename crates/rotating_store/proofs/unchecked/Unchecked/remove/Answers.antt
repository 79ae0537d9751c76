use Rattle.std.proofs.Common.{ap, ◌∙◌}
use Rattle.std.specs.FinSet as set
use Rattle.rotating_store.proofs.Checking.{listed_without, with_fresh, with_earlier}
use Rattle.rotating_store.proofs.unchecked.Unchecked.remove.Goals as goal

pub returns : goal.returns
returns c = rw (← c.self.view_is) (
    ap (with_fresh c.remove-2.new.self) (listed_without c.self.inside.fresh c.remove.new.self c.args.h.now c.remove.ensures.updates)
    ∙ ap (with_earlier (set.remove (set.from_list c.self.inside.fresh.keys) c.args.h.now))
    (listed_without c.self.inside.earlier c.remove-2.new.self c.args.h.now c.remove-2.ensures.updates))
