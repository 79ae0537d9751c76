use Rattle.std.proofs.Common.{◌≤◌, ◌++◌, sym, ap, ◌∙◌, subst, arith, length, IfSome, Some}
use Rattle.line_feed.specs.Feeding.{waiting, Feeds}
use Rattle.line_feed.specs.declared.feed.Fed.{Fed}
use Rattle.ledger_spec.specs.Bytes.{Bytes}
use Rattle.audit_core.specs.Runs.{Ends}
use Rattle.path_audit.specs.Keeping.{KeepsNodes}
use Rattle.path_audit.specs.declared.answer.PathAnswer.{PathAnswer}
use Rattle.path_audit.specs.declared.answer.PathAnswer.TheVariants.{Refused}
use Rattle.path_audit.specs.Paths.{path_most, after_node, Comes, IsPathAnswer}
use Rattle.audit_core.proofs.shared.Underway.{goes_on, refuses, ends, too_long}
use Rattle.std.proofs.lemmas.Result.{IfOk-weaker}
use Rattle.path_audit.proofs.run.audit_path.Goals as goal

pub returns-in-End-clause-answer : goal.returns-in-End-clause-answer
returns-in-End-clause-answer g c =
    let takes = subst (λ (fed : Fed). IfSome (g.S.Source.left c.loop-n.source) (λ left. Feeds 2097224 fed (waiting c.loop-n.feed ++ left)
    c.next_line.new.line.items (waiting c.next_line.new.self)
    (g.S.Source.left c.next_line.new.source))) c.in-End.is c.in_ok-next_line.ensures.feeds in
    IfOk-weaker c.ended.result _ _
    (λ answer told. ends KeepsNodes Refused path_most (after_node g.H.NodeHash.half) (Comes g.H.NodeHash.half c.args.root.now c.args.key.now)
    (g.S.Source.left c.args.source.now) (g.S.Source.left c.loop-n.source) (waiting c.loop-n.feed)
    c.next_line.new.line.items c.loop-n.nodes answer c.loop-n.n c.loop-n.invariant.way takes
    (λ short s keeps. subst (λ (r : Bytes). Ends Refused path_most (after_node g.H.NodeHash.half)
    (Comes g.H.NodeHash.half c.args.root.now c.args.key.now) c.loop-n.n s r answer) c.deref.ensures.value
    (told (subst (λ (r : Bytes). length r ≤ 2097224) (sym c.deref.ensures.value) short) s keeps))) c.ended.ensures.ends

pub returns-in-TooLong-clause-answer : goal.returns-in-TooLong-clause-answer
returns-in-TooLong-clause-answer g c =
    let takes = subst (λ (fed : Fed). IfSome (g.S.Source.left c.loop-n.source) (λ left. Feeds 2097224 fed (waiting c.loop-n.feed ++ left)
    c.next_line.new.line.items (waiting c.next_line.new.self)
    (g.S.Source.left c.next_line.new.source))) c.in-TooLong.is c.in_ok-next_line.ensures.feeds in
    subst (λ (a : PathAnswer). IfSome (g.S.Source.left c.args.source.now)
    (λ bytes. IsPathAnswer g.H.NodeHash.half c.args.root.now c.args.key.now bytes a))
    (sym c.refused.ensures)
    (too_long KeepsNodes Refused path_most (after_node g.H.NodeHash.half) (Comes g.H.NodeHash.half c.args.root.now c.args.key.now)
    (g.S.Source.left c.args.source.now) (g.S.Source.left c.loop-n.source) (waiting c.loop-n.feed)
    c.next_line.new.line.items c.loop-n.nodes c.loop-n.n c.loop-n.invariant.way takes)

pub returns-in-Err-Cause-clause-answer : goal.returns-in-Err-Cause-clause-answer
returns-in-Err-Cause-clause-answer g c =
    let takes = subst (λ (fed : Fed). IfSome (g.S.Source.left c.loop-n.source) (λ left. Feeds 2097224 fed (waiting c.loop-n.feed ++ left)
    c.next_line.new.line.items (waiting c.next_line.new.self)
    (g.S.Source.left c.next_line.new.source))) c.in-Line.is c.in_ok-next_line.ensures.feeds in
    subst (λ (a : PathAnswer). IfSome (g.S.Source.left c.args.source.now)
    (λ bytes. IsPathAnswer g.H.NodeHash.half c.args.root.now c.args.key.now bytes a))
    (sym (c.refused-in-Err-Cause.ensures ∙ ap (Refused c.loop-n.n) c.in-Err-Cause.cause-is))
    (refuses KeepsNodes Refused path_most (after_node g.H.NodeHash.half) (Comes g.H.NodeHash.half c.args.root.now c.args.key.now)
    (g.S.Source.left c.args.source.now) (g.S.Source.left c.loop-n.source)
    (g.S.Source.left c.next_line.new.source) (waiting c.loop-n.feed) c.next_line.new.line.items (waiting c.next_line.new.self)
    c.loop-n.nodes c.in-Err-Cause.cause c.loop-n.n c.loop-n.invariant.way takes
    (λ s keeps. ap (after_node g.H.NodeHash.half s) (sym c.deref-in-loop-n.ensures.value)
    ∙ c.in-Err-Cause.ensures.cause c.in-Err-Cause.cause s c.in-Err-Cause.field-0-is keeps))

pub loop-n-preserved : goal.loop-n-preserved
loop-n-preserved g c =
    let takes = subst (λ (fed : Fed). IfSome (g.S.Source.left c.loop-n.source) (λ left. Feeds 2097224 fed (waiting c.loop-n.feed ++ left)
    c.next_line.new.line.items (waiting c.next_line.new.self)
    (g.S.Source.left c.next_line.new.source))) c.in-Line.is c.in_ok-next_line.ensures.feeds in
    record {
      way = goes_on KeepsNodes Refused path_most (after_node g.H.NodeHash.half) (Comes g.H.NodeHash.half c.args.root.now c.args.key.now)
          (g.S.Source.left c.args.source.now) (g.S.Source.left c.loop-n.source)
          (g.S.Source.left c.next_line.new.source) (waiting c.loop-n.feed) c.next_line.new.line.items (waiting c.next_line.new.self)
          c.loop-n.nodes (Some c.in-Ok-after_line.after) c.loop-n.n c.loop-n.invariant.way takes
          (λ s keeps. let told = c.in-Ok-after_line.ensures.ok s keeps in
          (told.0, ap (after_node g.H.NodeHash.half s) (sym c.deref-in-loop-n.ensures.value) ∙ told.1, told.2));
      later = omega (arith, c.loop-n.invariant.later, c.in_ok-next_line.ensures.later);
    }
