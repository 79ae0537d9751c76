use Rattle.std.proofs.Common.{◌≤◌, ◌++◌, sym, ap, ◌∙◌, subst, arith, length, IfSome}
use Rattle.line_feed.specs.Feeding.{waiting, Feeds}
use Rattle.line_feed.specs.declared.feed.Fed.{Fed}
use Rattle.ledger_spec.specs.Bytes.{Bytes}
use Rattle.audit_core.specs.Runs.{Ends}
use Rattle.audit_core.specs.Keeping.{Keeps}
use Rattle.plain_audit.specs.Lines.{line_most, after_line}
use Rattle.audit_core.specs.declared.answer.Answer.{Answer}
use Rattle.audit_core.specs.declared.answer.Answer.TheVariants.{Refused}
use Rattle.plain_audit.specs.Answers.{Comes, IsAnswer}
use Rattle.audit_core.proofs.shared.Underway.{goes_on, refuses, ends, too_long}
use Rattle.plain_audit.proofs.run.audit_plain.Goals as goal

pub returns-in-End-clause-answer : goal.returns-in-End-clause-answer
returns-in-End-clause-answer g c =
    let takes = subst (λ (fed : Fed). IfSome (g.S.Source.left c.loop-n.source) (λ left. Feeds 2097220 fed (waiting c.loop-n.feed ++ left)
    c.next_line.new.line.items (waiting c.next_line.new.self)
    (g.S.Source.left c.next_line.new.source))) c.in-End.is c.in_ok-next_line.ensures.feeds in
    ends (Keeps g.H.NodeHash.half) Refused line_most after_line (Comes g.H.NodeHash.half c.args.expect)
    (g.S.Source.left c.args.source.now) (g.S.Source.left c.loop-n.source) (waiting c.loop-n.feed)
    c.next_line.new.line.items c.loop-n.audit c.ended.result c.loop-n.n c.loop-n.invariant.way takes
    (λ short s keeps. subst (λ (r : Bytes). Ends Refused line_most after_line
    (Comes g.H.NodeHash.half c.args.expect) c.loop-n.n s r c.ended.result) c.deref.ensures.value
    (c.ended.ensures (subst (λ (r : Bytes). length r ≤ 2097220) (sym c.deref.ensures.value) short) s keeps))

pub returns-in-TooLong-clause-answer : goal.returns-in-TooLong-clause-answer
returns-in-TooLong-clause-answer g c =
    let takes = subst (λ (fed : Fed). IfSome (g.S.Source.left c.loop-n.source) (λ left. Feeds 2097220 fed (waiting c.loop-n.feed ++ left)
    c.next_line.new.line.items (waiting c.next_line.new.self)
    (g.S.Source.left c.next_line.new.source))) c.in-TooLong.is c.in_ok-next_line.ensures.feeds in
    subst (λ (a : Answer). IfSome (g.S.Source.left c.args.source.now) (λ bytes. IsAnswer g.H.NodeHash.half c.args.expect bytes a))
    (sym c.refused.ensures)
    (too_long (Keeps g.H.NodeHash.half) Refused line_most after_line (Comes g.H.NodeHash.half c.args.expect)
    (g.S.Source.left c.args.source.now) (g.S.Source.left c.loop-n.source) (waiting c.loop-n.feed)
    c.next_line.new.line.items c.loop-n.audit c.loop-n.n c.loop-n.invariant.way takes)

pub returns-in-Err-Cause-clause-answer : goal.returns-in-Err-Cause-clause-answer
returns-in-Err-Cause-clause-answer g c =
    let takes = subst (λ (fed : Fed). IfSome (g.S.Source.left c.loop-n.source) (λ left. Feeds 2097220 fed (waiting c.loop-n.feed ++ left)
    c.next_line.new.line.items (waiting c.next_line.new.self)
    (g.S.Source.left c.next_line.new.source))) c.in-Line.is c.in_ok-next_line.ensures.feeds in
    subst (λ (a : Answer). IfSome (g.S.Source.left c.args.source.now) (λ bytes. IsAnswer g.H.NodeHash.half c.args.expect bytes a))
    (sym (c.refused-in-Err-Cause.ensures ∙ ap (Refused c.loop-n.n) c.in-Err-Cause.cause-is))
    (refuses (Keeps g.H.NodeHash.half) Refused line_most after_line (Comes g.H.NodeHash.half c.args.expect)
    (g.S.Source.left c.args.source.now) (g.S.Source.left c.loop-n.source)
    (g.S.Source.left c.next_line.new.source) (waiting c.loop-n.feed) c.next_line.new.line.items (waiting c.next_line.new.self)
    c.loop-n.audit c.in-Err-Cause.cause c.loop-n.n c.loop-n.invariant.way takes
    (λ s keeps. ap (after_line s) (sym c.deref-in-loop-n.ensures.value)
    ∙ c.in-Err-Cause.ensures.cause c.in-Err-Cause.cause s c.in-Err-Cause.field-0-is keeps))

pub loop-n-preserved : goal.loop-n-preserved
loop-n-preserved g c =
    let takes = subst (λ (fed : Fed). IfSome (g.S.Source.left c.loop-n.source) (λ left. Feeds 2097220 fed (waiting c.loop-n.feed ++ left)
    c.next_line.new.line.items (waiting c.next_line.new.self)
    (g.S.Source.left c.next_line.new.source))) c.in-Line.is c.in_ok-next_line.ensures.feeds in
    record {
      way = goes_on (Keeps g.H.NodeHash.half) Refused line_most after_line (Comes g.H.NodeHash.half c.args.expect)
          (g.S.Source.left c.args.source.now) (g.S.Source.left c.loop-n.source)
          (g.S.Source.left c.next_line.new.source) (waiting c.loop-n.feed) c.next_line.new.line.items (waiting c.next_line.new.self)
          c.loop-n.audit c.take_line.new.audit c.loop-n.n c.loop-n.invariant.way takes
          (λ s keeps. let told = c.in-Ok-take_line.ensures.ok s keeps in
          (told.0, ap (after_line s) (sym c.deref-in-loop-n.ensures.value) ∙ told.1, told.2));
      later = omega (arith, c.loop-n.invariant.later, c.in_ok-next_line.ensures.later);
    }
