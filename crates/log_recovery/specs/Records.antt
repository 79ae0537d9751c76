-- What is recovered, as records: each a form under its own hash.
use Rattle.std.specs.Prelude.{◌≡◌, ◌&&◌, Bool, nat_le, List, length, map, take, drop}
use Rattle.std.specs.FinMap as finite
use Rattle.ledger_spec.specs.Bytes.{Bytes, Hash, Half, Nodes, is_nonzero, are_bytes}
use Rattle.ledger_spec.specs.Own.{is_own}
use Rattle.ledger_machine.specs.declared.commands.Record.{Record}
use Rattle.log_shelf.specs.Rooms.{Files}
use Rattle.log_shelf.specs.Recovery.{IsRecovered}

-- whether a store may begin with this form under this hash: it is its own, which isn't zero, and it is a node's or a header's
abbrev pub is_fit : Half → Hash → Bytes → Bool
is_fit half h form = is_nonzero h && (is_own half h form && are_bytes form)

-- whether an entry of a log is a record: a hash of 32 bytes, and such a form
abbrev pub is_record : Half → Bytes → Bool
is_record half entry = nat_le 32 (length entry) && is_fit half (take 32 entry) (drop 32 entry)

-- the pairs of a map as records, hashes rising
abbrev pub records_of : Nodes → List Record
records_of nodes = map (λ e. record { hash = e.0; form = e.1 }) (finite.entries nodes)

-- the records are those of the live logs, hashes rising, each hash once: the last in the greatest log that has it
pub record AreRecovered (half : Half) (files : Files) (records : List Record) : Type 0 where
  pub found : Nodes
  pub last : IsRecovered (is_record half) files found
  pub each : records ≡ records_of found
