-- finding the root leaves the state
use Rattle.std.proofs.Common.{sym, subst}
use Rattle.ledger_spec.specs.Own.{AreStored}
use Rattle.ledger_machine.specs.State.{State, form_in}
use Rattle.core_machine.proofs.tables.Tables.get.Goals as goal

pub read-requires-after_bounds : goal.read-requires-after_bounds
read-requires-after_bounds g c κs within = λ told.
    subst (λ (s : State). AreStored g.H.NodeHash.half (form_in s)) (sym (c.root_of_view.ensures.reads.state told)) (c.requires told)
