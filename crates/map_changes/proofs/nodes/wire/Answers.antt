use Rattle.std.proofs.Common.{ap, ◌∙◌}
use Rattle.ledger_spec.specs.Wire.{wire_of}
use Rattle.map_changes.proofs.Wires.{sixteen, wire_there, none_there}
use Rattle.map_changes.proofs.nodes.wire.Goals as goal

pub hashes_below-requires : goal.hashes_below-requires
hashes_below-requires c =
    sixteen c.args.map.now.nodes c.args.at c.in-Some-Inner.links c.known.ensures.nodes
    (rw c.in-Some-Inner.field-0-is at c.in-Some-Inner.ensures)

-- the hashes are those of the node's links
pub returns-in_ok-inner_wire-in-Some-Inner : goal.returns-in_ok-inner_wire-in-Some-Inner
returns-in_ok-inner_wire-in-Some-Inner c half are =
    wire_there half c.args.map.now.kind c.args.map.now.nodes c.args.at c.in-Some-Inner.links c.in_ok-below-in-Some-Inner.below
    c.in_ok-inner_wire-in-Some-Inner.field-0 c.in_ok-inner_wire-in-Some-Inner.ensures
    (rw c.in-Some-Inner.field-0-is at c.in-Some-Inner.ensures)
    (c.in_ok-below-in-Some-Inner.ensures.hashes half c.args.map.now.kind c.args.map.now.nodes are)

-- behind the end of the list there is no node
pub returns-in-None : goal.returns-in-None
returns-in-None c half are =
    c.new-in-None.ensures ∙ c.new.ensures.items
    ∙ ap wire_of (none_there half c.args.map.now.kind c.args.map.now.nodes c.args.at c.in-None.ensures)
