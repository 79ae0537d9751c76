use Rattle.std.proofs.Common.{ℕ}
use Rattle.ledger_machine.specs.declared.commands.Command.TheVariants as command
use Rattle.swarm_gen.specs.Script.{says}
use Rattle.swarm_gen.proofs.Adds.{adds_as, mapped_twice}
use Rattle.swarm_gen.proofs.lines.Lines.add_peers.Goals as goal

pub loop-peer-preserved : goal.loop-peer-preserved
loop-peer-preserved c =
    adds_as _ _ _ _ _ _ (mapped_twice (says c.args.actor) (λ (p : ℕ). command.Peer p c.args.target) c.loop-peer.peer)
    c.loop-peer.invariant c.in_ok-say.ensures
