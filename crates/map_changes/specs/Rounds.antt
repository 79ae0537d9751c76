-- Nodes that are hashed side by side: a place, the form of the node there, and its hash.
use Rattle.std.specs.Prelude.{◌≡◌, List}
use Rattle.ledger_spec.specs.declared.Kind.{Kind}
use Rattle.ledger_spec.specs.Bytes.{Half}
use Rattle.ledger_spec.specs.Forms.{form_of}
use Rattle.cow_map.specs.Bodies.{Body}
use Rattle.map_changes.specs.declared.ahead.Due.{Due}
use Rattle.map_changes.specs.Tracking.{node_at}

-- the form is that of the node at the place
abbrev pub HasForm : Half → Kind → List Body → Due → Type 0
HasForm half kind nodes due = due.form ≡ form_of (node_at half kind nodes due.place)

-- the hash is that of the form of the node at the place
abbrev pub HasHash : Half → Kind → List Body → Due → Type 0
HasHash half kind nodes due = due.hash ≡ half (form_of (node_at half kind nodes due.place))
