-- the store was only asked, and all that it holds is forms under their own hashes
use Rattle.std.proofs.Common.{rules, refl}
use Rattle.core_machine.proofs.shared.Entries.{IsOver}
use Rattle.core_machine.proofs.Viewing.{filed_by}
use Rattle.core_machine.proofs.tables.Tables.read.Goals as goal

pub new-filed-requires-clause-filed : goal.new-filed-requires-clause-filed
new-filed-requires-clause-filed g c κs within =
    let is : IsOver c.self.inside.store c.args.self.now.state =
    rw (← c.self.view_is) (record { nodes = refl; born = refl; epoch = refl }) in
    filed_by g.H.NodeHash.half g.Sh.B.Backend.tells c.args.self.now.state c.self.inside.store is c.requires

pub returns-clause-reads : goal.returns-clause-reads
returns-clause-reads g c = search rules
