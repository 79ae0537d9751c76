use Rattle.std.proofs.Common.{refl}
use Rattle.swarm_gen.specs.Ledgers.{key, eight}
use Rattle.swarm_gen.proofs.Making.{half_of_two}
use Rattle.swarm_gen.proofs.state.key.Goals as goal

pub returns : goal.returns
unfolding key eight
returns g c = half_of_two g.H.NodeHash.half _ _ _ (eight c.args.plan.now.number) (eight c.args.n) c.half_parts.result
    c.half_parts.ensures c.to_be_bytes.ensures c.to_be_bytes-2.ensures refl
