-- What a room holds that a form was to be written into.
use Rattle.std.specs.Prelude.{Bool, true, false, Option, None, Some}
use Rattle.ledger_spec.specs.Bytes.{Bytes}

-- the bytes of a room that was filled, and none of one that wasn't
abbrev pub filled : Bool → Bytes → Option Bytes
filled true room = Some room
filled false room = None
