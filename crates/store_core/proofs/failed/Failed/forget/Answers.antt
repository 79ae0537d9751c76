use Rattle.std.proofs.Common.{rules, List, ℕ, subst, sym, ap, ◌∙◌, nat_eq}
use Rattle.std.specs.List.{IsDistinct}
use Rattle.std.proofs.lemmas.Fn.{filter_same}
use Rattle.store_core.specs.Failing.{without}
use Rattle.store_core.proofs.Failing.{distinct_less}
use Rattle.store_core.proofs.failed.Failed.forget.Goals as goal

pub returns : goal.returns
returns c = rw (← c.self.view_is) (filter_same _ _ _ (λ x b f' k. search rules) _ _ c.retain.ensures.filtered)

pub invariant_of-self : goal.invariant_of-self
invariant_of-self c =
    subst (λ (xs : List ℕ). IsDistinct nat_eq xs) (sym (returns c ∙ ap (without c.args.actor) (sym c.self.view_is)))
    (distinct_less _ c.self.inside.actors.items c.self.invariant)
