use Rattle.std.proofs.Common.{map, take}
use Rattle.swarm_gen.specs.Script.{get_line}
use Rattle.swarm_gen.specs.Adding.{Adds}
use Rattle.swarm_gen.proofs.lines.Lines.add_gets.Given as goal

abbrev pub invariant-loop-key : goal.invariant-loop-key
invariant-loop-key l = Adds l.initial.self l.self (map get_line (take l.key-index l.keys))
