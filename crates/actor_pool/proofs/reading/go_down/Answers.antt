use Rattle.std.proofs.Common.{false, None, Ok, refl, subst}
use Rattle.std.proofs.lemmas.Bool.{false≢true}
use Rattle.path_proof.specs.declared.way.Progress.{Progress}
use Rattle.path_proof.specs.Progressing.{Comes}
use Rattle.path_proof.proofs.shared.Walks.{fetched_as}
use Rattle.actor_pool.proofs.reading.go_down.Goals as goal

-- it was on its way before
pub loop-next-init : goal.loop-next-init
loop-next-init g c = c.requires.on_way

-- a node of the hash that is wanted leads on to the next place
pub loop-next-preserved : goal.loop-next-preserved
loop-next-preserved g c =
    let fetched = fetched_as g.H.NodeHash.half false (λ h. None) (λ h. None) c.wanted.result.now _ c.node_of-node.result c.wanted.ensures
    (λ told. refl) c.node_of-node.ensures (λ told. absurd (false≢true told)) in
    let came = c.in_ok-next.ensures.comes c.args.going.job.root false (λ h. None) c.requires.root c.loop-next.invariant fetched in
    subst (λ (p : Progress). Comes g.H.NodeHash.half c.args.going.job.kind c.args.going.job.root c.args.going.job.key false (λ h. None) (Ok p))
    c.in-More.is came

-- or ends the path
pub returns-in-Done : goal.returns-in-Done
returns-in-Done g c =
    let fetched = fetched_as g.H.NodeHash.half false (λ h. None) (λ h. None) c.wanted.result.now _ c.node_of-node.result c.wanted.ensures
    (λ told. refl) c.node_of-node.ensures (λ told. absurd (false≢true told)) in
    let came = c.in_ok-next.ensures.comes c.args.going.job.root false (λ h. None) c.requires.root c.loop-next.invariant fetched in
    (subst (λ (p : Progress). Comes g.H.NodeHash.half c.args.going.job.kind c.args.going.job.root c.args.going.job.key false (λ h. None) (Ok p))
    c.in-Done.is came).0
