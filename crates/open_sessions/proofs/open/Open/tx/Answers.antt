use Rattle.std.proofs.Common.{sym, ◌∙◌}
use Rattle.open_sessions.proofs.shared.Tables.{on_err, set_same}
use Rattle.open_sessions.proofs.open.Open.tx.Goals as goal

-- the lent session was given back as it was
pub returns-in_err-tx-clause-err : goal.returns-in_err-tx-clause-err
returns-in_err-tx-clause-err g c =
    on_err c.from_residual-in_err-tx.result ((c.get_mut.follows.holds c.tx.new.self).0
    ∙ set_same c.args.id c.self.inside.sessions.entries c.in-Some.session.now _ (sym c.in-Some.ensures.value) c.in_err-tx.ensures.err
    ∙ c.self.view_is)
