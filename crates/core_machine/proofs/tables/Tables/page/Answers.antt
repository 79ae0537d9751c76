-- finding the root leaves the state
use Rattle.std.proofs.Common.{sym, subst}
use Rattle.ledger_spec.specs.Own.{AreStored}
use Rattle.ledger_machine.specs.State.{State, form_in}
use Rattle.core_machine.proofs.tables.Tables.page.Goals as goal

pub page_below-requires-clause-filed : goal.page_below-requires-clause-filed
page_below-requires-clause-filed g c κs within = λ told.
    subst (λ (s : State). AreStored g.H.NodeHash.half (form_in s)) (sym (c.root_of_view.ensures.reads.state told)) (c.requires.filed told)
