use Rattle.std.proofs.Common.{List, ℕ, subst, sym, ◌∙◌, nat_eq}
use Rattle.std.specs.List.{IsDistinct}
use Rattle.store_core.proofs.Failing.{distinct_more}
use Rattle.store_core.proofs.failed.Failed.add.Goals as goal

-- the actor wasn't among them
pub invariant_of-self-2 : goal.invariant_of-self-2
invariant_of-self-2 c =
    subst (λ (xs : List ℕ). IsDistinct nat_eq xs) (sym c.in_ok-push.ensures.items)
    (distinct_more c.args.actor c.self.inside.actors.items c.self.invariant
    (rw (← c.self.view_is) at (sym c.has.ensures ∙ c.if-has.false)))
