use Rattle.std.proofs.Common.{arith}
use Rattle.store_core.proofs.Journals.{kept_few}
use Rattle.store_core.proofs.core_calls.Core.totals.Goals as goal

-- no more ledgers are listed than there are entries, and no more of those than lines
pub totals-requires-after_bounds : goal.totals-requires-after_bounds
totals-requires-after_bounds g c κs within =
    let k = c.self.invariant.0 in
    omega (arith, k.listed_few, kept_few _ _ _ _ _ _ _ _ _ _ _ _ k, k.servable.few)
