use Rattle.store_core.proofs.Charging.{node_charges_nobody, base_charges_nobody}
use Rattle.store_core.proofs.laws.what_is_wanted_charges_nobody.Goals as goal

pub returns-clause-node : goal.returns-clause-node
returns-clause-node c half s s' a p t kind path blob reply used step wanted =
    node_charges_nobody half s s' p t kind path blob wanted a reply used step

pub returns-clause-base : goal.returns-clause-base
returns-clause-base c half s s' a p t header state tx reply used step wanted =
    base_charges_nobody half s s' p t header state tx wanted a reply used step
