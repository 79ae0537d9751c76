use Rattle.std.proofs.Common.{arith, rules}
use Rattle.std.proofs.lemmas.Grind.{common_steps}
use Rattle.copy_walk.proofs.Taking.{strode_none, strode_on, cut_short, rest_none, rest_on, rule_kept, on_err}
use Rattle.copy_walk.proofs.walk.CopyWalk.slice.Goals as goal

-- none was taken yet
pub loop-init : goal.loop-init
loop-init g c = record {
  strode = λ told. strode_none c.args.self.now c.args.store.now;
  rest = rest_none c.args.store.now;
  later = omega arith;
  gets = omega arith;
}

-- one more was taken
pub loop-preserved : goal.loop-preserved
loop-preserved g c = record {
  strode = λ told. strode_on c.loop.counter c.loop.counter 1 1 c.args.self.now c.loop.self c.take.new.self c.args.store.now c.loop.store
      c.take.new.store (c.loop.invariant.strode told) (c.in_ok-take.ensures.takes.ok told);
  rest = rest_on c.args.store.now c.loop.store c.take.new.store c.loop.invariant.rest
      (c.take.ensures.store.past, c.take.ensures.store.ready, c.take.ensures.store.noted);
  later = omega (arith, c.loop.invariant.later, c.take.ensures.store.later);
  gets = omega (arith, c.loop.invariant.gets, c.take.ensures.store.gets);
}

-- each stride keeps the rule
pub returns-then-is_done-clause-slices : goal.returns-then-is_done-clause-slices
returns-then-is_done-clause-slices g c = record {
  ok = first_of (search rules, grind (arith, common_steps));
  err = first_of (search rules, grind (arith, common_steps));
  rule = λ told. rule_kept _ _ _ _ _ _ (c.loop.invariant.strode told);
  left = first_of (search rules, grind (arith, common_steps));
  kind = first_of (search rules, grind (arith, common_steps));
}

-- the next one was refused
pub returns-in_err-take-clause-slices : goal.returns-in_err-take-clause-slices
returns-in_err-take-clause-slices g c = record {
  ok = first_of (search rules, grind (arith, common_steps));
  err = λ told.
      on_err _ c.from_residual.result
      (cut_short c.loop.counter c.args.n c.args.self.now c.loop.self c.take.new.self c.args.store.now c.loop.store c.take.new.store
      (omega (arith, c.loop-test.true)) (c.loop.invariant.strode told) (c.in_err-take.ensures.takes.err told));
  rule = λ told.
      rule_kept _ _ _ _ _ _
      (strode_on c.loop.counter c.loop.counter 0 1 c.args.self.now c.loop.self c.take.new.self c.args.store.now c.loop.store
      c.take.new.store (c.loop.invariant.strode told) (c.in_err-take.ensures.takes.err told));
  left = first_of (search rules, grind (arith, common_steps));
  kind = first_of (search rules, grind (arith, common_steps));
}

pub returns-clause-slices : goal.returns-clause-slices
returns-clause-slices g c = record {
  ok = first_of (search rules, grind (arith, common_steps));
  err = first_of (search rules, grind (arith, common_steps));
  rule = λ told. rule_kept _ _ _ _ _ _ (c.loop.invariant.strode told);
  left = first_of (search rules, grind (arith, common_steps));
  kind = first_of (search rules, grind (arith, common_steps));
}
