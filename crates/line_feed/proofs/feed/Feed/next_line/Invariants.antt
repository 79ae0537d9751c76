use Rattle.std.proofs.Common.{◌≤◌, ◌+◌, ◌-◌, vec_len, IfSome}
use Rattle.line_feed.specs.Feeding.{waiting}
use Rattle.line_feed.proofs.Going.{Goes}
use Rattle.line_feed.proofs.feed.Feed.next_line.Given as goal

abbrev pub invariant-loop-whole : goal.invariant-loop-whole
invariant-loop-whole g l = record {
  goes : IfSome (g.S.Source.left l.fn.source) (λ bytes. Goes (waiting l.fn.self) bytes l.line.items (waiting l.self)
      (g.S.Source.left l.source));
  short : vec_len l.line ≤ l.most;
  later : g.S.Source.faults l.fn.source ≤ g.S.Source.faults l.source;
}

abbrev pub decreases-loop-whole : goal.decreases-loop-whole
decreases-loop-whole g l = l.most + 1 - (vec_len l.line + (l.self.end - l.self.at))
