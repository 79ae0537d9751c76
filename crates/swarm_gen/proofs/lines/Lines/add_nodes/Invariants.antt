use Rattle.std.proofs.Common.{◌≡◌, ◌+◌, map, length}
use Rattle.swarm_gen.specs.Script.{says, lines_for_all}
use Rattle.swarm_gen.specs.Adding.{Adds}
use Rattle.swarm_gen.proofs.lines.Lines.add_nodes.Given as goal

abbrev pub invariant-loop-sent : goal.invariant-loop-sent
invariant-loop-sent l = record {
  count : l.n ≡ l.first + length l.yielded;
  added : Adds l.initial.self l.self (map (says l.actor) (lines_for_all l.plan l.target l.first l.yielded));
}
