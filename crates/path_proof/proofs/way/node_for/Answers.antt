use Rattle.std.proofs.Common.{ap, ◌∙◌, List, ℕ, take, subst, IfErr}
use Rattle.nib_path.specs.Paths.{nibbles}
use Rattle.shamap_node.specs.Nodes.{hashes_above}
use Rattle.path_proof.specs.Ways.{Ends}
use Rattle.path_proof.proofs.PathLaws.{rules_above}
use Rattle.path_proof.proofs.way.node_for.Goals as goal

-- a node that breaks no rule at the key's path has levels below it, if it is an inner one
pub returns-clause-above : goal.returns-clause-above
returns-clause-above g c =
    rules_above c.args.kind _ _ c.args.key.now c.args.place.now.depth c.judged.result c.args.place.now.within c.known.ensures
    (c.of_key-id.ensures ∙ ap (λ (k : List ℕ). take c.args.place.now.depth (nibbles k)) c.key.view_is) c.judged.ensures.rules

-- the node was judged at the place on the key's path, below the inner node that is kept there
pub returns-clause-ends : goal.returns-clause-ends
returns-clause-ends g c tells nodes fetched =
    let half = g.H.NodeHash.half in
    let place = c.args.place.now in
    subst (λ (p : List ℕ). IfErr c.judged.result (Ends half c.args.kind tells nodes (hashes_above c.args.parent) p place.wanted))
    (c.of_key-id.ensures ∙ ap (λ (k : List ℕ). take place.depth (nibbles k)) c.key.view_is) (c.judged.ensures.ends tells nodes fetched)
