use Rattle.std.proofs.Common.{sym, subst}
use Rattle.core_machine.specs.Desks.{IsFiled}
use Rattle.store_core.specs.Halls.{HallView}
use Rattle.store_core.proofs.hall.Hall.node_at.Goals as goal

pub node_at-requires-after_bounds : goal.node_at-requires-after_bounds
node_at-requires-after_bounds g c κs within =
    subst (λ (x : HallView). IsFiled g.H.NodeHash.half g.Sh.B.Backend.tells x.desk.state) (sym c.self.view_is) c.requires
