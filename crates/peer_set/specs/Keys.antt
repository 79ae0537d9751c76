-- Places as bytes.
use Rattle.std.specs.Prelude.{ℕ, [], ◌∷◌, ◌++◌, replicate}
use Rattle.nib_path.specs.Paths.{IsPath, id_wire}
use Rattle.ledger_spec.specs.declared.Kind.{Kind}
use Rattle.ledger_spec.specs.declared.Kind.TheVariants.{State, Tx, Set}
use Rattle.ledger_spec.specs.declared.Place.{Place}
use Rattle.ledger_spec.specs.declared.Place.TheVariants.{Header, Node}
use Rattle.ledger_spec.specs.Bytes.{Bytes}

-- kinds from 1 on, since the header's key has a zero there
abbrev pub kind_number : Kind → ℕ
kind_number State = 1
kind_number Tx = 2
kind_number Set = 3

-- the wire form of the node's ID and the number of its kind, or zeros
abbrev pub key_of : Place → Bytes
key_of Header = replicate 34 0
key_of (Node kind path) = id_wire path ++ kind_number kind ∷ []

-- a node's path is one in a map of 256-bit keys
abbrev pub IsPlace : Place → Type 0
IsPlace Header = Unit {0}
IsPlace (Node kind path) = IsPath path
