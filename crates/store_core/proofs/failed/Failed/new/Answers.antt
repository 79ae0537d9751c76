use Rattle.std.proofs.Common.{List, ℕ, subst, sym, nat_eq}
use Rattle.std.specs.List.{IsDistinct}
use Rattle.store_core.proofs.Failing.{distinct_none}
use Rattle.store_core.proofs.failed.Failed.new.Goals as goal

-- there are none
pub invariant_of-result : goal.invariant_of-result
invariant_of-result c = subst (λ (xs : List ℕ). IsDistinct nat_eq xs) (sym c.in_ok-actors.ensures.items) distinct_none
