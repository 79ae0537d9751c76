use Rattle.std.proofs.Common.{◌-◌, refl, rules, arith}
use Rattle.std.proofs.lemmas.Grind.{common_steps}
use Rattle.missing_walk.proofs.stack.go_below.Goals as goal

pub returns-clause-ok : goal.returns-clause-ok
returns-clause-ok c rest top is = record {
  one = record { at = c.index.result.now.at; height = c.len-height.result - 1; node = c.args.node };
  at_is = first_of (search rules, grind (arith, common_steps));
  height_is = first_of (search rules, grind (arith, common_steps));
  node_is = refl;
  open_is = first_of (search rules, grind (arith, common_steps));
  places = first_of (search rules, grind (arith, common_steps));
}
