-- the rotation is told of the ledger that is opened
use Rattle.std.proofs.Common.{[], ◌∷◌}
use Rattle.core_machine.proofs.Retold.{opened_tells, own_told}
use Rattle.core_machine.proofs.shared.States.{on_err}
use Rattle.core_machine.proofs.tables.Tables.want.Goals as goal

pub returns-in_err-open-clause-may_tell : goal.returns-in_err-open-clause-may_tell
returns-in_err-open-clause-may_tell g c =
    on_err c.from_residual.result (own_told c.args.self.now.state c.open.new.self.state
    (c.args.target.now ∷ []) c.in_err-open.ensures.hears)

pub returns-clause-tells : goal.returns-clause-tells
returns-clause-tells g c =
    opened_tells c.args.self.now.state c.open.new.self.state c.args.target.now c.args.seq c.in_ok-open.ensures.ok c.in_ok-open.ensures.hears
