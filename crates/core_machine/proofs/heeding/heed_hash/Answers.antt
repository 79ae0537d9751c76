use Rattle.std.proofs.Common.{rules}
use Rattle.std.proofs.Common.{◌∙◌, sym}
use Rattle.acquire_core.specs.Answers.{forms_in}
use Rattle.core_machine.proofs.Offered.{heeds_one, heeded_one}
use Rattle.core_machine.proofs.heeding.heed_hash.Goals as goal

-- nothing is stored under it
pub returns-in-Ok-clause-walk : goal.returns-in-Ok-clause-walk
returns-in-Ok-clause-walk g c = record {
  heeds = λ told.
      heeds_one (forms_in c.args.store.now) c.args.rotator.now c.heed.new.self c.args.h.now
      (sym (c.in-Ok-false.ensures.found told) ∙ c.in-Ok-false.field-0-test) c.in-Ok.ensures.heeds (λ e. (c.in-Ok.ensures.idle e).1);
  rest = search rules;
  idle = search rules;
  store = search rules;
  later = search rules;
  fault = search rules;
}

pub returns-in-Ok-clause-heeded : goal.returns-in-Ok-clause-heeded
returns-in-Ok-clause-heeded g c told turning =
    heeded_one (forms_in c.args.store.now) c.args.rotator.now c.heed.new.self c.args.h.now c.in-Ok.ensures.heeds turning
