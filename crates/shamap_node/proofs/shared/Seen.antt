-- What is held by bytes is what they are the form of. For proofs of other crates.
use Rattle.shamap_node.specs.Laws.{HeldByForm}
use Rattle.ledger_spec.proofs.shared.Readings.{holds}
use Rattle.ledger_spec.proofs.shared.Seeing.{sees}

pub held_by_form : HeldByForm
held_by_form half sized n b = (sees half n b, holds half sized n b)
