use Rattle.std.proofs.Common.{subst, arith}
use Rattle.line_feed.specs.Feeding.{waiting, Cuts}
use Rattle.line_feed.proofs.Going.{goes_end}
use Rattle.line_feed.proofs.feed.Feed.next_line.Goals as goal

pub returns-then-branch-eq0-clause-feeds : goal.returns-then-branch-eq0-clause-feeds
returns-then-branch-eq0-clause-feeds g c =
    let takes = subst (λ b. Cuts b (waiting c.loop-whole.self) c.loop-whole.line.items c.take_front.new.line.items
    (waiting c.take_front.new.self))
    c.if-whole.false c.in_ok-whole.ensures.cuts in
    goes_end (g.S.Source.left c.args.source.now) (g.S.Source.left c.loop-whole.source) _ (waiting c.args.self.now) c.loop-whole.line.items
    (waiting c.loop-whole.self) c.take_front.new.line.items (waiting c.take_front.new.self) _ _ c.args.most
    c.loop-whole.invariant.goes takes (omega (arith, c.if-len-most.false, c.len.ensures)) c.if-branch-eq0.true c.in_ok-fill.ensures.fills
