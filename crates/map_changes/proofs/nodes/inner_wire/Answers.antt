use Rattle.std.proofs.Common.{refl}
use Rattle.map_changes.proofs.Wires.{wire_as, none_written}
use Rattle.map_changes.proofs.nodes.inner_wire.Goals as goal

-- the node has these hashes
pub returns-in_ok-encode_wire-in-Some : goal.returns-in_ok-encode_wire-in-Some
returns-in_ok-encode_wire-in-Some c =
    wire_as c.in_ok-encode_wire-in-Some.field-0 c.in-Some.inner.hashes c.args.below c.in_ok-encode_wire-in-Some.ensures c.in-Some.ensures.0

-- where all are zero, nothing stands before the type
pub returns-in_ok-from_slice-in-None : goal.returns-in_ok-from_slice-in-None
returns-in_ok-from_slice-in-None c =
    none_written c.in_ok-from_slice-in-None.field-0 c.args.below c.args.below c.in_ok-from_slice-in-None.ensures c.in-None.ensures refl
