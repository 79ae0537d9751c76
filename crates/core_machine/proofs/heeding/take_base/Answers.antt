-- the hashes are shaded, and then the parts are judged over a store that was only read
use Rattle.std.proofs.Common.{◌≡◌, Contains, sym, subst}
use Rattle.std.specs.Option.{option_copied}
use Rattle.ledger_spec.specs.Bytes.{Lookup}
use Rattle.ledger_spec.specs.Own.{AreStored}
use Rattle.acquire_core.specs.Answers.{forms_in, Answers}
use Rattle.ledger_spec.specs.Replies.{base_given, base_stored}
use Rattle.core_machine.proofs.Turns.{walking_counted, walking_heeded}
use Rattle.core_machine.proofs.Offered.{answers_counted, counted_nodes}
use Rattle.core_machine.specs.Heeds.{IsHeeded}
use Rattle.core_machine.proofs.Parting.{base_walks}
use Rattle.core_machine.proofs.heeding.take_base.Goals as goal

-- the hashes couldn't be shaded, or not be looked for
pub returns-in_err-heed_base-clause-walks : goal.returns-in_err-heed_base-clause-walks
returns-in_err-heed_base-clause-walks g c told stored turning is among k =
    walking_counted c.args.rotator.now.shaded c.heed_base.new.rotator.walk c.args.store.now c.heed_base.new.store
    (c.heed_base.ensures.walk.store told)
    (walking_heeded c.args.rotator.now.shaded c.args.rotator.now c.heed_base.new.rotator c.args.store.now
    (c.heed_base.ensures.walk.heeds told) k)

-- the answer is that over the store before
pub returns-clause-answer : goal.returns-clause-answer
returns-clause-answer g c told stored =
    let half = g.H.NodeHash.half in
    let same : forms_in c.heed_base.new.store ≡ forms_in c.args.store.now =
    counted_nodes c.args.store.now c.heed_base.new.store (c.heed_base.ensures.walk.store told) in
    answers_counted half
    (base_given half (forms_in c.args.store.now) c.args.acquire.now.target c.args.acquire.now.peers c.args.peer c.args.header.now
    (option_copied c.args.state)
    (option_copied c.args.tx))
    (base_stored half (forms_in c.args.store.now) c.args.acquire.now.target c.args.acquire.now.peers c.args.peer c.args.header.now
    (option_copied c.args.state)
    (option_copied c.args.tx))
    c.args.store.now c.heed_base.new.store c.base.result c.base.new.store (c.heed_base.ensures.walk.store told)
    (subst (λ (m : Lookup). Answers half
    (base_given half m c.args.acquire.now.target c.args.acquire.now.peers c.args.peer c.args.header.now (option_copied c.args.state)
    (option_copied c.args.tx))
    (base_stored half m c.args.acquire.now.target c.args.acquire.now.peers c.args.peer c.args.header.now (option_copied c.args.state)
    (option_copied c.args.tx)) c.heed_base.new.store c.base.result c.base.new.store) same
    (c.base.ensures.answer told (subst (AreStored half) (sym same) stored)))

-- what was written is shaded, and reached from the target
pub returns-clause-walks : goal.returns-clause-walks
returns-clause-walks g c told stored turning is among k =
    let half = g.H.NodeHash.half in
    base_walks half c.args.rotator.now.shaded c.args.rotator.now c.heed_base.new.rotator c.args.store.now c.base.new.store
    c.args.acquire.now c.args.peer c.args.header.now (option_copied c.args.state) (option_copied c.args.tx)
    (c.heed_base.ensures.walk.heeds told) (subst (Contains c.args.rotator.now.shaded) (sym is) among)
    (base_given half (forms_in c.args.store.now) c.args.acquire.now.target c.args.acquire.now.peers c.args.peer c.args.header.now
    (option_copied c.args.state)
    (option_copied c.args.tx)) c.base.result
    (subst (IsHeeded (forms_in c.args.store.now) c.heed_base.new.rotator) (sym is) (c.in_ok-heed_base.ensures.target told turning))
    (c.in_ok-heed_base.ensures.state told turning) (c.in_ok-heed_base.ensures.tx told turning) (returns-clause-answer g c told stored) k
