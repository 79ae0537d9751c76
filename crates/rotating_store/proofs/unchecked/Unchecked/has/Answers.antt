use Rattle.std.proofs.Common.{sym, ◌∙◌}
use Rattle.rotating_store.proofs.Checking.{first_has, second_has}
use Rattle.rotating_store.proofs.unchecked.Unchecked.has.Goals as goal

pub returns-then-is_in : goal.returns-then-is_in
returns-then-is_in c = rw (← c.self.view_is) (c.if-is_in.true
    ∙ sym (first_has _ _ c.args.h.now (sym c.is_in.ensures ∙ c.if-is_in.true)))

pub returns-else-is_in : goal.returns-else-is_in
returns-else-is_in c = rw (← c.self.view_is) (c.is_in-else-is_in.ensures
    ∙ second_has _ _ c.args.h.now (sym c.is_in.ensures ∙ c.if-is_in.false))
