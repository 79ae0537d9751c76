use Rattle.std.proofs.lemmas.List.Elements.{All-map, All-same}
use Rattle.swarm_gen.specs.Sending.{sent, below}
use Rattle.swarm_gen.specs.Serving.{IsOfLedger}
use Rattle.swarm_gen.proofs.next.sent.Goals as goal

pub returns-clause-maps : goal.returns-clause-maps
returns-clause-maps c =
    All-same IsOfLedger _ _ c.loop-node.invariant
    (All-map IsOfLedger (sent c.args.kind) (below c.loop-node.yielded) (λ k d lt. c.requires))
