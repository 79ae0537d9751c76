-- listed, or pinned by a view or a session
use Rattle.std.proofs.Common.{◌||◌, sym, ap, ◌∙◌}
use Rattle.std.specs.List.{list_any}
use Rattle.std.specs.Map.{values_of}
use Rattle.ledger_spec.specs.Bytes.{same_bytes}
use Rattle.core_machine.proofs.Machines.{retained_with}
use Rattle.core_machine.proofs.machine.Machine.is_retained.Goals as goal

pub returns-then-is_retained : goal.returns-then-is_retained
returns-then-is_retained g c =
    rw (← c.self.view_is)
    (c.if-is_retained.true
    ∙ sym (ap (λ b. b || list_any (λ d. same_bytes c.args.target.now d.base) (values_of c.self.inside.sessions))
    (sym c.is_retained.ensures ∙ c.if-is_retained.true))
    ∙ retained_with g.H.NodeHash.half g.Sh.B.Backend.tells c.self.inside.tables.state c.self.inside.sessions c.args.target.now
    c.known.ensures.sessions)

pub returns-else-is_retained : goal.returns-else-is_retained
returns-else-is_retained g c =
    rw (← c.self.view_is)
    (c.pins-pinned.ensures
    ∙ sym (ap (λ b. b || list_any (λ d. same_bytes c.args.target.now d.base) (values_of c.self.inside.sessions))
    (sym c.is_retained.ensures ∙ c.if-is_retained.false))
    ∙ retained_with g.H.NodeHash.half g.Sh.B.Backend.tells c.self.inside.tables.state c.self.inside.sessions c.args.target.now
    c.known.ensures.sessions)
