use Rattle.map_changes.proofs.Closing.{inner_kids, no_kids}
use Rattle.map_changes.proofs.Wires.{sixteen, none_past}
use Rattle.map_changes.proofs.ahead.knows_kids.Goals as goal

pub are_known-requires : goal.are_known-requires
are_known-requires c =
    sixteen c.args.map.now.nodes c.args.at c.in-Some-Inner.links c.known.ensures.nodes
    (rw c.in-Some-Inner.field-0-is at c.in-Some-Inner.ensures)

-- those to which its links lead
pub returns-in-Some-Inner : goal.returns-in-Some-Inner
returns-in-Some-Inner c known =
    let is = rw c.in-Some-Inner.field-0-is at c.in-Some-Inner.ensures in
    inner_kids c.args.map.now.nodes c.args.hashes.now c.args.at c.in-Some-Inner.links
    (sixteen c.args.map.now.nodes c.args.at c.in-Some-Inner.links c.known.ensures.nodes is) is
    (c.are_known.ensures known)

-- behind the end of the list there is no node
pub returns-in-None : goal.returns-in-None
returns-in-None c known =
    no_kids c.args.map.now.nodes c.args.hashes.now c.args.at (none_past c.args.map.now.nodes c.args.at c.in-None.ensures)
