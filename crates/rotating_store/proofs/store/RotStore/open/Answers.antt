use Rattle.std.proofs.Common.{refl, ◌∙◌, rules, arith}
use Rattle.std.proofs.lemmas.Grind.{common_steps}
use Rattle.rotating_store.proofs.Spares.{spare_open}
use Rattle.rotating_store.proofs.Checking.{noted_open}
use Rattle.rotating_store.proofs.store.RotStore.open.Goals as goal

-- the two numbers that the shelf gave are the store's own
pub returns-clause-opened : goal.returns-clause-opened
returns-clause-opened g c = record {
  empty = first_of (search rules, grind (arith, common_steps));
  state = first_of (search rules, grind (arith, common_steps));
  count = first_of (search rules, grind (arith, common_steps));
  lists = (
    spare_open _ _ _ _ _ c.in-Ok.ensures.above.0 c.in-Ok.ensures.lists.listed c.in-Ok-fresh.ensures.above.0 c.in-Ok-fresh.ensures.lists.listed,
    c.fresh-2.ensures.lists.others ∙ c.fresh.ensures.lists.others,
  );
  gets = first_of (search rules, grind (arith, common_steps));
  past = (refl, refl, noted_open g.Sh.B.Backend.tells _ _ c.new.result c.in-Ok-fresh.ensures.backend.empty c.in-Ok.ensures.backend.empty);
}
