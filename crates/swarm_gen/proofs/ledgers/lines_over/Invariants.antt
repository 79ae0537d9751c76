use Rattle.std.proofs.Common.{◌≡◌, ◌≤◌, ◌+◌, true, length}
use Rattle.swarm_gen.specs.Ledgers.{hash_of_ledger, are_nonzero}
use Rattle.swarm_gen.specs.Standing.{IsLeft}
use Rattle.swarm_gen.specs.Swarm.{nodes_before}
use Rattle.swarm_gen.proofs.ledgers.lines_over.Given as goal

abbrev pub invariant-loop-j : goal.invariant-loop-j
invariant-loop-j g l = record {
  nonzero : are_nonzero g.H.NodeHash.half (nodes_before g.H.NodeHash.half l.plan (l.j + 1)) ≡ true;
  parent : l.behind.parent ≡ hash_of_ledger g.H.NodeHash.half l.plan l.j;
  left : IsLeft g.H.NodeHash.half l.plan l.j l.lines l.behind.waits;
  earlier : l.behind.waits ≤ length l.lines;
}
