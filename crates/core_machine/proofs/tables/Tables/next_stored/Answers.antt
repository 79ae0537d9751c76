use Rattle.std.proofs.Common.{refl}
use Rattle.core_machine.proofs.shared.Entries.{IsOver, filed_over}
use Rattle.core_machine.proofs.tables.Tables.next_stored.Goals as goal

pub next_record-requires-after_bounds : goal.next_record-requires-after_bounds
next_record-requires-after_bounds g c κs within told =
    let is : IsOver c.self.inside.store c.args.self.now.state =
    rw (← c.self.view_is) (record { nodes = refl; born = refl; epoch = refl }) in
    filed_over g.H.NodeHash.half c.self.inside.store c.args.self.now.state is (c.requires told)
