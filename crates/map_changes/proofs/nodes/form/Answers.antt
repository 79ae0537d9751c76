use Rattle.std.proofs.Common.{ap, ◌∙◌}
use Rattle.ledger_spec.specs.Forms.{form_of}
use Rattle.map_changes.proofs.Closing.{inner_kids, no_kids}
use Rattle.map_changes.proofs.Wires.{sixteen, none_past, none_there}
use Rattle.map_changes.proofs.nodes.form.Goals as goal

pub hashes_below-requires : goal.hashes_below-requires
hashes_below-requires c =
    sixteen c.args.map.now.nodes c.args.at c.in-Some-Inner.links c.known.ensures.nodes
    (rw c.in-Some-Inner.field-0-is at c.in-Some-Inner.ensures)

-- behind the end of the list there is no node
pub returns-in_ok-from_slice-in-None-clause-form : goal.returns-in_ok-from_slice-in-None-clause-form
returns-in_ok-from_slice-in-None-clause-form c half are =
    c.in_ok-from_slice-in-None.ensures ∙ c.bytes.ensures
    ∙ ap form_of (none_there half c.args.map.now.kind c.args.map.now.nodes c.args.at c.in-None.ensures)

-- the hashes of an inner node's kids were read
pub returns-in_ok-inner_form-in-Some-Inner-clause-kids : goal.returns-in_ok-inner_form-in-Some-Inner-clause-kids
returns-in_ok-inner_form-in-Some-Inner-clause-kids c =
    let is = rw c.in-Some-Inner.field-0-is at c.in-Some-Inner.ensures in
    inner_kids c.args.map.now.nodes c.args.hashes.now c.args.at c.in-Some-Inner.links
    (sixteen c.args.map.now.nodes c.args.at c.in-Some-Inner.links c.known.ensures.nodes is) is
    c.in_ok-below-in-Some-Inner.ensures.known

pub returns-in_ok-from_slice-in-None-clause-kids : goal.returns-in_ok-from_slice-in-None-clause-kids
returns-in_ok-from_slice-in-None-clause-kids c =
    no_kids c.args.map.now.nodes c.args.hashes.now c.args.at (none_past c.args.map.now.nodes c.args.at c.in-None.ensures)
