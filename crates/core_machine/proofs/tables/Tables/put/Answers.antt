-- what the store gives is the state's
use Rattle.std.proofs.Common.{refl}
use Rattle.ledger_machine.specs.State.{State}
use Rattle.core_machine.proofs.shared.Entries.{IsOver}
use Rattle.core_machine.proofs.Paging.{gives_all}
use Rattle.core_machine.proofs.Changing.{put_by}
use Rattle.core_machine.proofs.Viewing.{filed_by}
use Rattle.core_machine.proofs.tables.Tables.put.Goals as goal
use Rattle.core_machine.proofs.tables.Tables.put.Goals.{in-Ok, in-Err}

-- all that the store holds is forms under their own hashes
pub put-requires-clause-filed : goal.put-requires-clause-filed
put-requires-clause-filed g c κs within =
    let is : IsOver c.self.inside.store c.args.self.now.state =
    rw (← c.self.view_is) (record { nodes = refl; born = refl; epoch = refl }) in
    filed_by g.H.NodeHash.half g.Sh.B.Backend.tells c.args.self.now.state c.self.inside.store is c.requires

pub returns-clause-changed : goal.returns-clause-changed
returns-clause-changed g c told =
    let s : State = c.args.self.now.state in
    let is : IsOver c.self.inside.store s = rw (← c.self.view_is) (record { nodes = refl; born = refl; epoch = refl }) in
    let by = put_by g.H.NodeHash.half g.Sh.B.Backend.tells _ _ c.args.item.now.key c.args.item.now.value c.args.sessions.now c.put.new.self
    c.args.id c.put.result told (gives_all g.H.NodeHash.half c.self.inside.store s is (c.requires told)) c.put.ensures.changed in
    elim c.match-put.branch [
      | in-Ok w ↦ rw w.result-is (rw w.in-Ok.is at by)
      | in-Err w ↦ rw w.result-is tt
    ]
