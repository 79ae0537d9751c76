use Rattle.ledger_spec.proofs.shared.Readings.{same_reading}
use Rattle.shamap_node.proofs.shared.Seen.{held_by_form}
use Rattle.shamap_node.proofs.forms.one_form.Goals as goal

pub returns-clause-one : goal.returns-clause-one
returns-clause-one c = same_reading

pub returns-clause-held : goal.returns-clause-held
returns-clause-held c = held_by_form
