use Rattle.std.proofs.Common.{◌≤◌, IfSome}
use Rattle.line_feed.specs.Feeding.{waiting}
use Rattle.page_audit.specs.Keeping.{KeepsPages}
use Rattle.audit_core.proofs.shared.Underway.{Underway}
use Rattle.page_audit.specs.Pages.{page_most, after_page, Comes}
use Rattle.audit_core.specs.declared.answer.Answer.TheVariants.{Refused}
use Rattle.page_audit.proofs.run.audit_pages.Given as goal

-- the answer to what is left is the answer to all
abbrev pub invariant-loop-n : goal.invariant-loop-n
invariant-loop-n g l = record {
  way : IfSome (g.S.Source.left l.fn.source) (λ bytes. Underway (KeepsPages g.H.NodeHash.half) Refused page_most after_page
      (Comes g.H.NodeHash.half l.expect) bytes (waiting l.feed) (g.S.Source.left l.source)
      l.pages l.n);
  later : g.S.Source.faults l.fn.source ≤ g.S.Source.faults l.source;
}
