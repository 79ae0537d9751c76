use Rattle.std.specs.FinMap as map
use Rattle.path_proof.proofs.PathLaws.{under}
use Rattle.path_proof.proofs.reading.node_at.Goals as goal

pub returns-clause-held : goal.returns-clause-held
returns-clause-held g c = under _ c.judged.result (λ told. c.judged.ensures.held _ (c.fetch-fetched.ensures.exact told))

pub returns-clause-ends : goal.returns-clause-ends
returns-clause-ends g c =
    c.judged.ensures.ends g.S.NodeSource.tells (map.get (g.S.NodeSource.stored c.args.source.now))
    (record { hash = c.fetch-fetched.ensures.hash; exact = c.fetch-fetched.ensures.exact })
