use Rattle.std.proofs.Common.{inl, sym, ◌∙◌}
use Rattle.store_core.proofs.hall.Hall.is_openable.Goals as goal

-- a view is open under the number
pub returns-then-contains_key : goal.returns-then-contains_key
returns-then-contains_key g c = inl (rw (← c.self.view_is) (sym c.contains_key.ensures ∙ c.if-contains_key.true))
