use Rattle.std.proofs.Common.{ap, sym, ◌∙◌}
use Rattle.map_changes.specs.Tracking.{link_hash}
use Rattle.map_changes.proofs.Closing.{known_there}
use Rattle.map_changes.proofs.Wires.{empty_is, unloaded_is}
use Rattle.map_changes.proofs.nodes.hash_in.Goals as goal

-- an empty link stands for the zero hash
pub returns-in-Empty-clause-hash : goal.returns-in-Empty-clause-hash
returns-in-Empty-clause-hash c half kind nodes are =
    c.zero.ensures ∙ empty_is half kind nodes ∙ ap (link_hash half kind nodes) (sym c.in-Empty.is)

pub returns-in-Unloaded-clause-hash : goal.returns-in-Unloaded-clause-hash
returns-in-Unloaded-clause-hash c half kind nodes are =
    unloaded_is half kind nodes c.in-Unloaded.hash ∙ ap (link_hash half kind nodes) (sym c.in-Unloaded.is)

-- the hash that is known at a place is that of its node
pub returns-in_ok-known-in-Own-clause-hash : goal.returns-in_ok-known-in-Own-clause-hash
returns-in_ok-known-in-Own-clause-hash c half kind nodes are =
    are.each c.in-Own.at c.in_ok-known-in-Own.field-0 c.in_ok-known-in-Own.ensures ∙ ap (link_hash half kind nodes) (sym c.in-Own.is)

pub returns-in_ok-known-in-Own-clause-known : goal.returns-in_ok-known-in-Own-clause-known
returns-in_ok-known-in-Own-clause-known c i is =
    known_there c.args.hashes.now c.args.link.now c.in-Own.at i c.in_ok-known-in-Own.field-0 c.in-Own.is c.in_ok-known-in-Own.ensures is
