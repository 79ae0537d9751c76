use Rattle.std.proofs.Common.{sym, ap, ◌∙◌, ◌==◌}
use Rattle.std.proofs.lemmas.List.{length-map}
use Rattle.ledger_spec.specs.Reads.{inner_hashes}
use Rattle.shamap_node.specs.Nodes.{held, hashes_above}
use Rattle.path_proof.specs.Paths.{held_nodes}
use Rattle.path_proof.proofs.Steps.{from_root, cut_short}
use Rattle.path_proof.proofs.following.path_says.Goals as goal

-- nodes follow behind this one, which is no inner node, so nothing can lead on to them
pub returns-in_default-deref : goal.returns-in_default-deref
returns-in_default-deref g c =
    cut_short g.H.NodeHash.half c.args.kind c.args.key.now c.loop-node.waypoint.depth (hashes_above c.loop-node.parent)
    c.loop-node.waypoint.wanted
    (held_nodes c.loop-node.rest.now) (held_nodes c.in-Some.after.now) (held c.in-Some.node.now.value) _
    (ap held_nodes c.in-Some.ensures.cases.0)
    (ap inner_hashes (ap held (sym c.deref-in-Some.ensures ∙ c.in_default-deref.is)))
    (ap (λ n. n == 0) (length-map c.in-Some.after.now (λ a. held a.value)) ∙ sym c.is_empty-in-Some.ensures ∙ c.if-is_empty-2.false)
    c.loop-node.invariant.same
    ∙ sym (from_root g.H.NodeHash.half c.args.kind c.args.root.now c.args.key.now (held_nodes c.args.used.now)
    (sym c.is_zero.ensures ∙ c.if-is_zero.false))
