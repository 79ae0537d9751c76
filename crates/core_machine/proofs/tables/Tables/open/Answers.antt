-- the rotation was told, and then the acquisition was opened
use Rattle.core_machine.proofs.Retold.{opened_on, same_on, hears_same, told_same}
use Rattle.core_machine.proofs.tables.Tables.open.Goals as goal

pub returns-clause-ok : goal.returns-clause-ok
returns-clause-ok g c =
    opened_on c.begin_search.result c.args.self.now.state c.shade.new.self.state c.begin_search.new.self.state c.args.target.now c.args.seq
    c.in_ok-shade.ensures.after c.begin_search.ensures.ok

pub returns-clause-err : goal.returns-clause-err
returns-clause-err g c =
    same_on c.begin_search.result c.args.self.now.state c.shade.new.self c.begin_search.new.self c.in_ok-shade.ensures.after
    c.begin_search.ensures.memory.err

pub returns-clause-hears : goal.returns-clause-hears
returns-clause-hears g c = hears_same _ _ _ _ c.in_ok-shade.ensures.hears c.begin_search.ensures.memory.told

pub returns-clause-told : goal.returns-clause-told
returns-clause-told g c =
    told_same c.begin_search.result _ c.shade.new.self.state.shaded _ c.args.target.now c.in_ok-shade.ensures.told
    c.begin_search.ensures.memory.told
