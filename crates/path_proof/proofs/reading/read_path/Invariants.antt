use Rattle.std.proofs.Common.{◌≡◌, ◌≤◌, IsTrue}
use Rattle.std.specs.FinMap as map
use Rattle.path_proof.specs.Progressing.{IsOnWay, levels_left}
use Rattle.path_proof.proofs.reading.read_path.Given as goal

-- the read is on its way, over what the source held from the start
abbrev pub invariant-loop-next : goal.invariant-loop-next
invariant-loop-next g l = record {
  way : IsOnWay g.H.NodeHash.half l.kind l.root l.key g.S.NodeSource.tells (map.get (g.S.NodeSource.stored l.fn.source)) l.reading;
  same : IsTrue g.S.NodeSource.tells → g.S.NodeSource.stored l.source ≡ g.S.NodeSource.stored l.fn.source;
  rest : g.S.NodeSource.rest l.source ≡ g.S.NodeSource.rest l.fn.source;
  later : g.S.NodeSource.faults l.fn.source ≤ g.S.NodeSource.faults l.source;
}

abbrev pub decreases-loop-next : goal.decreases-loop-next
decreases-loop-next g l = levels_left l.reading
