use Rattle.std.proofs.Common.{◌≤◌, IfSome}
use Rattle.line_feed.specs.Feeding.{waiting}
use Rattle.path_audit.specs.Keeping.{KeepsNodes}
use Rattle.audit_core.proofs.shared.Underway.{Underway}
use Rattle.path_audit.specs.Paths.{path_most, after_node, Comes}
use Rattle.path_audit.specs.declared.answer.PathAnswer.TheVariants.{Refused}
use Rattle.path_audit.proofs.run.audit_path.Given as goal

-- the answer to what is left is the answer to all
abbrev pub invariant-loop-n : goal.invariant-loop-n
invariant-loop-n g l = record {
  way : IfSome (g.S.Source.left l.fn.source) (λ bytes. Underway KeepsNodes Refused path_most (after_node g.H.NodeHash.half)
      (Comes g.H.NodeHash.half l.root l.key) bytes (waiting l.feed) (g.S.Source.left l.source)
      l.nodes l.n);
  later : g.S.Source.faults l.fn.source ≤ g.S.Source.faults l.source;
}
