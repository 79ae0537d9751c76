use Rattle.std.proofs.Common.{[]}
use Rattle.swarm_gen.specs.Adding.{ledger_from}
use Rattle.swarm_gen.proofs.Adds.{opening_is}
use Rattle.swarm_gen.proofs.lines.Lines.add_opening.Goals as goal

pub returns : goal.returns
returns c =
    opening_is c.args.actor (ledger_from c.args.head [] []) c.args.self.now _ _ _ _ c.in_ok-say.ensures c.in_ok-add_peers.ensures
    c.in_ok-say-2.ensures c.in_ok-say-3.ensures
