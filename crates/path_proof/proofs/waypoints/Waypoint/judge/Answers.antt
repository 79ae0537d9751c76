use Rattle.std.proofs.Common.{ap, ◌∙◌, List, ℕ, take}
use Rattle.nib_path.specs.Paths.{nibbles}
use Rattle.ledger_spec.specs.Rules.{fault_of}
use Rattle.shamap_node.specs.Nodes.{held, hashes_above}
use Rattle.path_proof.proofs.Steps.{judged_above}
use Rattle.path_proof.proofs.waypoints.Waypoint.judge.Goals as goal

-- an inner node at depth 64 breaks a rule of shape, so one that breaks none stands higher
pub returns-clause-above : goal.returns-clause-above
returns-clause-above c =
    judged_above c.shape.result (held c.args.node.now) (hashes_above c.args.parent) c.args.kind c.args.key.now c.args.self.now.depth
    c.args.self.now.within c.known.ensures
    (c.shape.ensures ∙ ap (fault_of (held c.args.node.now) (hashes_above c.args.parent) c.args.kind) c.of_key-id.ensures
    ∙ ap (λ (k : List ℕ). fault_of (held c.args.node.now) (hashes_above c.args.parent) c.args.kind
    (take c.args.self.now.depth (nibbles k))) c.key.view_is)
