use Rattle.std.proofs.Common.{arith, sym, ◌∙◌}
use Rattle.log_recovery.proofs.Fitting.{entry_tested}
use Rattle.log_recovery.proofs.entry.StoredFormsEntryTest.test.Goals as goal

-- what stands behind the hash is the form
pub returns : goal.returns
returns g c =
    entry_tested g.H.NodeHash.half c.args.entry.now c.from_slice.result _ c.is_fit.result (omega arith)
    (c.from_slice.ensures ∙ c.split_at.ensures.front) c.split_at.ensures.back
    (c.is_fit.ensures g.H.NodeHash.half (sym c.half.ensures))
