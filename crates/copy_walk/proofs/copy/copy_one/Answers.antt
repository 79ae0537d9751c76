-- the form is copied forward
use Rattle.copy_walk.proofs.Copying.{copied_one}
use Rattle.copy_walk.proofs.copy.copy_one.Goals as goal

pub returns-in_err-moved-clause-one : goal.returns-in_err-moved-clause-one
returns-in_err-moved-clause-one g c told =
    copied_one c.args.h.now c.args.store.now c.forward_into.new.self c.forward_into.result (c.forward_into.ensures.forwards.nodes told)
    (c.forward_into.ensures.forwards.archive told) (c.forward_into.ensures.forwards.moves told)

-- it was copied and is written into the room, or nothing is stored under the hash
pub returns-clause-one : goal.returns-clause-one
returns-clause-one g c told =
    copied_one c.args.h.now c.args.store.now c.forward_into.new.self c.forward_into.result (c.forward_into.ensures.forwards.nodes told)
    (c.forward_into.ensures.forwards.archive told) (c.forward_into.ensures.forwards.moves told)
