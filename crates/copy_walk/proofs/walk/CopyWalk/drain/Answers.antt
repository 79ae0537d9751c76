use Rattle.std.proofs.Common.{refl, sym, ◌∙◌, arith}
use Rattle.std.proofs.lemmas.Bool.{false≢true}
use Rattle.copy_walk.proofs.Taking.{drains_none, drains_on, strode_on, rest_none, rest_on, rule_kept}
use Rattle.copy_walk.proofs.walk.CopyWalk.drain.Goals as goal

-- none was taken yet
pub loop-alloc-init : goal.loop-alloc-init
loop-alloc-init g c = record {
  strode = λ told. drains_none c.args.self.now c.args.store.now;
  none = λ empty. (refl, empty);
  rest = rest_none c.args.store.now;
  later = omega arith;
  gets = omega arith;
}

-- one more was taken
pub loop-alloc-preserved : goal.loop-alloc-preserved
loop-alloc-preserved g c = record {
  strode = λ told. drains_on 1 1 c.args.self.now c.loop-alloc.self c.take.new.self c.args.store.now c.loop-alloc.store c.take.new.store
      (c.loop-alloc.invariant.strode told) (c.in_ok-take.ensures.takes.ok told);
  none = λ empty. absurd (false≢true (sym c.loop-alloc-test.true ∙ c.is_done.ensures.1 (c.loop-alloc.invariant.none empty).1));
  rest = rest_on c.args.store.now c.loop-alloc.store c.take.new.store c.loop-alloc.invariant.rest
      (c.take.ensures.store.past, c.take.ensures.store.ready, c.take.ensures.store.noted);
  later = omega (arith, c.loop-alloc.invariant.later, c.take.ensures.store.later);
  gets = omega (arith, c.loop-alloc.invariant.gets, c.take.ensures.store.gets);
}

-- the next one was refused, and each stride keeps the rule
pub returns-in_err-take-clause-drains : goal.returns-in_err-take-clause-drains
returns-in_err-take-clause-drains g c = record {
  strode = λ told.
      drains_on 0 1 c.args.self.now c.loop-alloc.self c.take.new.self c.args.store.now c.loop-alloc.store c.take.new.store
      (c.loop-alloc.invariant.strode told) (c.in_err-take.ensures.takes.err told);
  rule = λ told.
      let first = c.loop-alloc.invariant.strode told in
      rule_kept _ _ _ _ _ _
      (strode_on first.taken first.copied 0 1 c.args.self.now c.loop-alloc.self c.take.new.self c.args.store.now c.loop-alloc.store
      c.take.new.store first.strode (c.in_err-take.ensures.takes.err told));
}

pub returns-clause-drains : goal.returns-clause-drains
returns-clause-drains g c = record {
  strode = c.loop-alloc.invariant.strode;
  rule = λ told. rule_kept _ _ _ _ _ _ (c.loop-alloc.invariant.strode told).strode;
}
