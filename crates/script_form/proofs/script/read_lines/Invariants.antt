use Rattle.std.proofs.Common.{length}
use Rattle.script_form.proofs.Scripts.{Reads}
use Rattle.script_form.proofs.script.read_lines.Given as goal

abbrev pub invariant-loop-rest : goal.invariant-loop-rest
invariant-loop-rest g l = Reads g.H.NodeHash.half l.bytes l.records l.lines.items l.earlier.items l.n l.rest l.pages

abbrev pub decreases-loop-rest : goal.decreases-loop-rest
decreases-loop-rest g l = length l.rest
