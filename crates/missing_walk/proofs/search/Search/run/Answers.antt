use Rattle.std.proofs.Common.{sym, ◌∙◌, arith, rules}
use Rattle.std.proofs.lemmas.Grind.{common_steps}
use Rattle.missing_walk.proofs.shared.Seeing.{tells_after}
use Rattle.missing_walk.proofs.shared.Heeding.{goes_on}
use Rattle.missing_walk.proofs.search.Search.run.Goals as goal

-- the step that was refused left what it found true
pub returns-in_err-turn-clause-lighter : goal.returns-in_err-turn-clause-lighter
returns-in_err-turn-clause-lighter g c = record {
  going = λ nodes t going. c.turn.ensures.lighter.going nodes (tells_after _ _ _ _ nodes c.loop.invariant.read t)
      (c.loop.invariant.going nodes t going);
  rests = first_of (search rules, grind (arith, common_steps));
  bounds = first_of (search rules, grind (arith, common_steps));
}

-- a place more was looked at, in the store as it was read before
pub loop-preserved : goal.loop-preserved
loop-preserved g c = record {
  going = λ nodes t going. c.turn.ensures.lighter.going nodes (tells_after _ _ _ _ nodes c.loop.invariant.read t)
      (c.loop.invariant.going nodes t going);
  rests = λ nodes t going. let more = goes_on c.loop.self (sym c.is_over.ensures ∙ c.if-is_over.false) in
      let before = c.loop.invariant.rests nodes t going in
      let step = c.in_ok-turn.ensures.lighter.rests nodes (tells_after _ _ _ _ nodes c.loop.invariant.read t)
      (c.loop.invariant.going nodes t going) in
      record { fewer = λ unbroken. omega (arith, step.fewer unbroken, before.fewer more.0) };
  bounds = let more = goes_on c.loop.self (sym c.is_over.ensures ∙ c.if-is_over.false) in
      let step = c.in_ok-turn.ensures.lighter.bounds in
      record { fewer = λ unbroken. omega (arith, step.fewer unbroken, c.loop.invariant.bounds.fewer more.0) };
  same = first_of (search rules, grind (arith, common_steps));
  few = first_of (search rules, grind (arith, common_steps));
  cache = first_of (search rules, grind (arith, common_steps));
  marks = first_of (search rules, grind (arith, common_steps));
  room = first_of (search rules, grind (arith, common_steps));
  idle = first_of (search rules, grind (arith, common_steps));
  shorter = first_of (search rules, grind (arith, common_steps));
  no_gets = first_of (search rules, grind (arith, common_steps));
  read = first_of (search rules, grind (arith, common_steps));
  gets = first_of (search rules, grind (arith, common_steps));
}
