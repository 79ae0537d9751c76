use Rattle.std.proofs.Common.{◌≤◌, IfSome}
use Rattle.line_feed.specs.Feeding.{waiting}
use Rattle.audit_core.specs.Keeping.{Keeps}
use Rattle.audit_core.proofs.shared.Underway.{Underway}
use Rattle.plain_audit.specs.Lines.{line_most, after_line}
use Rattle.plain_audit.specs.Answers.{Comes}
use Rattle.audit_core.specs.declared.answer.Answer.TheVariants.{Refused}
use Rattle.plain_audit.proofs.run.audit_plain.Given as goal

-- the answer to what is left is the answer to all
abbrev pub invariant-loop-n : goal.invariant-loop-n
invariant-loop-n g l = record {
  way : IfSome (g.S.Source.left l.fn.source) (λ bytes. Underway (Keeps g.H.NodeHash.half) Refused line_most after_line
      (Comes g.H.NodeHash.half l.expect) bytes (waiting l.feed) (g.S.Source.left l.source)
      l.audit l.n);
  later : g.S.Source.faults l.fn.source ≤ g.S.Source.faults l.source;
}
