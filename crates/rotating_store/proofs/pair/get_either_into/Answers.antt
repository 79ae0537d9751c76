use Rattle.rotating_store.proofs.Filled.{from_first, from_second}
use Rattle.rotating_store.proofs.pair.get_either_into.Goals as goal

pub returns-then-here-clause-found : goal.returns-then-here-clause-found
returns-then-here-clause-found g c tells = from_first _ _ c.args.h.now _ _ (c.in_ok-here.ensures.found tells) c.if-here.true

pub returns-clause-found : goal.returns-clause-found
returns-clause-found g c tells = from_second _ _ c.args.h.now _ _ _ (c.in_ok-here.ensures.found tells) c.if-here.false
    (c.in_ok-there.ensures.found tells)
