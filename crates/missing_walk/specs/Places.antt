-- The place that a key names.
use Rattle.ledger_spec.specs.declared.Place.{Place}
use Rattle.ledger_spec.specs.declared.Place.TheVariants.{Node as NodePlace}
use Rattle.full_below.specs.declared.key.MarkKey.{MarkKey}

abbrev pub place_at : MarkKey → Place
place_at key = NodePlace key.kind key.id
