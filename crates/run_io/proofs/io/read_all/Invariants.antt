use Rattle.std.proofs.Common.{◌≡◌, ◌≤◌, ◌-◌, vec_len}
use Rattle.run_io.proofs.Bytes.{Reading}
use Rattle.run_io.proofs.io.read_all.Given as goal

abbrev pub invariant-loop-held : goal.invariant-loop-held
invariant-loop-held g l = record {
  reading : Reading (g.S.Source.left l.fn.source) l.held.items (g.S.Source.left l.source);
  most : vec_len l.held ≤ l.most;
  room : vec_len l.buf ≡ 65536;
  later : g.S.Source.faults l.fn.source ≤ g.S.Source.faults l.source;
}

abbrev pub decreases-loop-held : goal.decreases-loop-held
decreases-loop-held g l = l.most - vec_len l.held
