-- the rotation was told, and then the ledger was listed
use Rattle.std.proofs.Common.{ap, arith}
use Rattle.ledger_machine.specs.State.{State}
use Rattle.core_machine.proofs.Retold.{listed_on, same_on, hears_same}
use Rattle.core_machine.proofs.tables.Tables.list.Goals as goal

pub enlist-requires-after_bounds : goal.enlist-requires-after_bounds
enlist-requires-after_bounds g c κs within =
    omega (arith, c.if-seq-floor.false, c.floor.ensures, ap (λ (s : State). s.floor) c.in_ok-shade.ensures.after)

pub returns-clause-ok : goal.returns-clause-ok
returns-clause-ok g c =
    listed_on c.enlist.result c.args.self.now.state c.shade.new.self.state c.enlist.new.self.state c.args.target.now c.args.seq
    c.in_ok-shade.ensures.after c.enlist.ensures.ok

pub returns-clause-err : goal.returns-clause-err
returns-clause-err g c =
    same_on c.enlist.result c.args.self.now.state c.shade.new.self c.enlist.new.self c.in_ok-shade.ensures.after c.enlist.ensures.err

pub returns-clause-hears : goal.returns-clause-hears
returns-clause-hears g c = hears_same _ _ _ _ c.in_ok-shade.ensures.hears c.enlist.ensures.told
