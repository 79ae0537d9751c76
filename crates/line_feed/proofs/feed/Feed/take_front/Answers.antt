use Rattle.std.proofs.Common.{◌≡◌, ◌-◌, ◌<◌, ap, sym, ◌∙◌, subst, arith, ℕ, length, take, drop, List, slice_index, ◌≢◌, ◌++◌, refl}
use Rattle.line_feed.specs.Feeding.{waiting}
use Rattle.line_feed.proofs.Newlines.{cuts_line, takes_all, behind_newline, none_waits}
use Rattle.line_feed.proofs.feed.Feed.take_front.Goals as goal

-- what stands before the newline is taken, and what is behind it waits
pub returns-then-self-n-clause-cuts : goal.returns-then-self-n-clause-cuts
returns-then-self-n-clause-cuts c =
    let xs : List ℕ = c.args.self.now.piece.items in
    let n : ℕ = c.line_end-n.result in
    let is = c.part-waiting.ensures.part ∙ ap (λ (l : List ℕ). take (c.args.self.now.end - c.args.self.now.at)
    (drop c.args.self.now.at l)) c.deref.ensures.value in
    let size : length (waiting c.args.self.now) ≡ c.args.self.now.end - c.args.self.now.at = ap length (sym is)
    ∙ c.part-waiting.ensures.size in
    let low : n < length c.part-waiting.result.now = omega (arith, c.part-waiting.ensures.size, c.if-self-n.true) in
    cuts_line (waiting c.args.self.now) c.args.line.now.items c.extend_from_slice.new.self.items _ n (omega (arith, size, c.if-self-n.true))
    (subst (λ (w : List ℕ). (k : ℕ) → k < n → slice_index w k ≢ 10) is c.line_end-n.ensures.before)
    (ap (λ (w : List ℕ). slice_index w n) (sym is) ∙ c.line_end-n.ensures.at low)
    (c.in_ok-extend_from_slice.ensures.items ∙ ap (λ (l : List ℕ). c.args.line.now.items ++ l) (c.split_at.ensures.front ∙ ap (take n) is))
    (behind_newline xs c.args.self.now.at n c.args.self.now.end c.if-self-n.true)

-- there is no newline: all is taken
pub returns-else-self-n-clause-cuts : goal.returns-else-self-n-clause-cuts
returns-else-self-n-clause-cuts c =
    let n : ℕ = c.line_end-n.result in
    let is = c.part-waiting.ensures.part ∙ ap (λ (l : List ℕ). take (c.args.self.now.end - c.args.self.now.at)
    (drop c.args.self.now.at l)) c.deref.ensures.value in
    let size : length (waiting c.args.self.now) ≡ c.args.self.now.end - c.args.self.now.at = ap length (sym is)
    ∙ c.part-waiting.ensures.size in
    takes_all (waiting c.args.self.now) c.args.line.now.items c.extend_from_slice.new.self.items _ n
    (omega (arith, size, c.if-self-n.false, c.line_end-n.ensures.within, c.part-waiting.ensures.size, c.args.self.now.order))
    (subst (λ (w : List ℕ). (k : ℕ) → k < n → slice_index w k ≢ 10) is c.line_end-n.ensures.before)
    (c.in_ok-extend_from_slice.ensures.items ∙ ap (λ (l : List ℕ). c.args.line.now.items ++ l) (c.split_at.ensures.front ∙ ap (take n) is))
    (none_waits c.args.self.now.piece.items c.args.self.now.end c.args.self.now.end refl)
