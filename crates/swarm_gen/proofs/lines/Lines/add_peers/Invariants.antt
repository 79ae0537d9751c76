use Rattle.std.proofs.Common.{map}
use Rattle.std.specs.List.{range_with_len}
use Rattle.ledger_machine.specs.declared.commands.Command.TheVariants as command
use Rattle.swarm_gen.specs.Script.{says}
use Rattle.swarm_gen.specs.Adding.{Adds}
use Rattle.swarm_gen.proofs.lines.Lines.add_peers.Given as goal

abbrev pub invariant-loop-peer : goal.invariant-loop-peer
invariant-loop-peer l = Adds l.initial.self l.self (map (says l.actor) (map (λ p. command.Peer p l.target) (range_with_len 0 l.peer)))
