use Rattle.path_proof.proofs.PathLaws.{law_of, law_but_sets}
use Rattle.path_proof.proofs.following.follow.Goals as goal

pub returns-clause-sets : goal.returns-clause-sets
returns-clause-sets g c =
    law_of g.H.NodeHash.half c.known_half.ensures.size c.args.kind c.args.root.now c.args.key.now c.args.used.now c.path_says.result
    c.known_key.ensures c.path_says.ensures

pub returns-clause-law : goal.returns-clause-law
returns-clause-law g c =
    law_but_sets g.H.NodeHash.half c.args.kind c.args.root.now c.args.key.now c.args.used.now c.path_says.result
    (law_of g.H.NodeHash.half c.known_half.ensures.size c.args.kind c.args.root.now c.args.key.now c.args.used.now c.path_says.result
    c.known_key.ensures c.path_says.ensures)
