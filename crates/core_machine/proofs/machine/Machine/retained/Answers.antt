-- what the machine retains, and the ledgers that are edited
use Rattle.std.proofs.Common.{◌∙◌}
use Rattle.core_machine.proofs.Rising.{retained_as}
use Rattle.core_machine.proofs.machine.Machine.retained.Goals as goal

pub returns : goal.returns
returns g c =
    rw (← c.self.view_is) (retained_as g.H.NodeHash.half g.Sh.B.Backend.tells c.self.inside.tables.state c.self.inside.sessions
    c.in_ok-hashes.ensures.0 _ _ c.rising.result (λ v. v.items) c.in_ok-hashes.ensures.1 (c.deref-2.ensures.value ∙
    c.in_ok-hashes.ensures.2)
    (c.deref.ensures.value ∙ c.in_ok-bases.ensures) c.rising.ensures)
