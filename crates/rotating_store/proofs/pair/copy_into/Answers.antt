use Rattle.std.proofs.Common.{rules, arith}
use Rattle.std.proofs.lemmas.Grind.{common_steps}
use Rattle.node_backend.proofs.shared.Filling.{has_some, has_none}
use Rattle.rotating_store.proofs.Filled.{from_first, in_second, in_neither}
use Rattle.rotating_store.proofs.pair.copy_into.Goals as goal

-- the first has it
pub returns-then-here-clause-copies : goal.returns-then-here-clause-copies
returns-then-here-clause-copies g c = record {
  moves = λ tells.
      let some = has_some _ _ _ (c.in_ok-here.ensures.found tells) c.if-here.true in
      first_of (search rules, grind (arith, common_steps));
  form = λ tells. from_first _ _ c.args.h.now _ _ (c.in_ok-here.ensures.found tells) c.if-here.true;
  writes = first_of (search rules, grind (arith, common_steps));
}

-- the second has it
pub returns-then-there-clause-copies : goal.returns-then-there-clause-copies
returns-then-there-clause-copies g c = record {
  moves = λ tells.
      let none = has_none _ _ _ (c.in_ok-here.ensures.found tells) c.if-here.false in
      let some = has_some _ _ _ (c.in_ok-there.ensures.found tells) c.if-there.true in
      first_of (search rules, grind (arith, common_steps));
  form = λ tells. in_second _ _ c.args.h.now _ _ _ _ (c.in_ok-here.ensures.found tells) c.if-here.false
      (c.in_ok-there.ensures.found tells) c.if-there.true;
  writes = λ tells.
      let none = has_none _ _ _ (c.in_ok-here.ensures.found tells) c.if-here.false in
      let some = has_some _ _ _ (c.in_ok-there.ensures.found tells) c.if-there.true in
      first_of (search rules, grind (arith, common_steps));
}

-- neither has it
pub returns-clause-copies : goal.returns-clause-copies
returns-clause-copies g c = record {
  moves = λ tells.
      let none = has_none _ _ _ (c.in_ok-here.ensures.found tells) c.if-here.false in
      let no = has_none _ _ _ (c.in_ok-there.ensures.found tells) c.if-there.false in
      first_of (search rules, grind (arith, common_steps));
  form = λ tells. in_neither _ _ c.args.h.now _ _ _ _ (c.in_ok-here.ensures.found tells) c.if-here.false
      (c.in_ok-there.ensures.found tells) c.if-there.false;
  writes = first_of (search rules, grind (arith, common_steps));
}
