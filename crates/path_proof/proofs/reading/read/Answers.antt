use Rattle.path_proof.proofs.PathLaws.{law_of_read, read_but_sets}
use Rattle.path_proof.proofs.reading.read.Goals as goal

pub returns-clause-sets : goal.returns-clause-sets
returns-clause-sets g c =
    law_of_read g.H.NodeHash.half c.known_half.ensures.size c.args.kind c.args.root.now c.args.key.now c.read_path.result
    c.known_key.ensures
    c.read_path.ensures.path

pub returns-clause-law : goal.returns-clause-law
returns-clause-law g c =
    read_but_sets g.H.NodeHash.half c.args.kind c.args.root.now c.args.key.now c.read_path.result
    (law_of_read g.H.NodeHash.half c.known_half.ensures.size c.args.kind c.args.root.now c.args.key.now c.read_path.result
    c.known_key.ensures c.read_path.ensures.path)
