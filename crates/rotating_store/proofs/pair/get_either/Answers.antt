use Rattle.rotating_store.proofs.shared.Merging.{found_first, found_second}
use Rattle.rotating_store.proofs.pair.get_either.Goals as goal

pub returns-in-Some-clause-found : goal.returns-in-Some-clause-found
returns-in-Some-clause-found g c tells = found_first _ _ c.args.h.now _ _ (c.in_ok-form.ensures.found tells) c.in-Some.is

pub returns-clause-found : goal.returns-clause-found
returns-clause-found g c tells = found_second _ _ c.args.h.now _ _ (c.in_ok-form.ensures.found tells) c.in_default.is
    (c.in_ok-form-2.ensures.found tells)
