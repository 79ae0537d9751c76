use Rattle.std.proofs.Common.{false, None, Ok, Some, refl, subst}
use Rattle.std.proofs.lemmas.Bool.{false≢true}
use Rattle.path_proof.specs.declared.way.Progress.{Progress}
use Rattle.path_proof.specs.Progressing.{Comes}
use Rattle.path_proof.proofs.shared.Walks.{fetched_as}
use Rattle.actor_pool.proofs.reading.go_near.Goals as goal

-- a read that is at a root whose hash isn't zero is on its way
pub loop-node-init : goal.loop-node-init
loop-node-init g c =
    c.at_root-reading.ensures g.H.NodeHash.half c.args.job.now.kind c.args.job.now.key false (λ h. None) c.requires

-- a node of the hash that is wanted leads on to the next place
pub loop-node-preserved : goal.loop-node-preserved
loop-node-preserved g c =
    let fetched = fetched_as g.H.NodeHash.half false (λ h. None) (λ h. None) c.wanted.result.now _ (Ok (Some c.in-Some.node))
    c.wanted.ensures (λ told. refl) c.in-Some.ensures (λ told. absurd (false≢true told)) in
    let came = c.in_ok-next.ensures.comes c.args.job.now.root false (λ h. None) c.requires c.loop-node.invariant fetched in
    subst (λ (p : Progress). Comes g.H.NodeHash.half c.args.job.now.kind c.args.job.now.root c.args.job.now.key false (λ h. None) (Ok p))
    c.in-More.is came

-- or ends the path
pub new-requires-in-Done-after_bounds : goal.new-requires-in-Done-after_bounds
new-requires-in-Done-after_bounds g c κs lives =
    let fetched = fetched_as g.H.NodeHash.half false (λ h. None) (λ h. None) c.wanted.result.now _ (Ok (Some c.in-Some.node))
    c.wanted.ensures (λ told. refl) c.in-Some.ensures (λ told. absurd (false≢true told)) in
    let came = c.in_ok-next.ensures.comes c.args.job.now.root false (λ h. None) c.requires c.loop-node.invariant fetched in
    (subst (λ (p : Progress). Comes g.H.NodeHash.half c.args.job.now.kind c.args.job.now.root c.args.job.now.key false (λ h. None) (Ok p))
    c.in-Done.is came).0
