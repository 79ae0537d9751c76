-- the hash is shaded, and then the node is judged over a store that was only read
use Rattle.std.proofs.Common.{◌≡◌, sym, subst}
use Rattle.ledger_spec.specs.Bytes.{Lookup}
use Rattle.ledger_spec.specs.Own.{AreStored}
use Rattle.acquire_core.specs.Answers.{forms_in, Answers}
use Rattle.ledger_spec.specs.Replies.{node_given, node_stored}
use Rattle.core_machine.proofs.Turns.{walking_counted, walking_heeded}
use Rattle.core_machine.proofs.Offered.{answers_counted, counted_nodes, node_walks}
use Rattle.core_machine.proofs.heeding.take_node.Goals as goal

-- the hash couldn't be shaded, or not be looked for
pub returns-in_err-heed_node-clause-walks : goal.returns-in_err-heed_node-clause-walks
returns-in_err-heed_node-clause-walks g c told stored turning among k =
    walking_counted c.args.rotator.now.shaded c.heed_node.new.rotator.walk c.args.store.now c.heed_node.new.store
    (c.heed_node.ensures.walk.store told)
    (walking_heeded c.args.rotator.now.shaded c.args.rotator.now c.heed_node.new.rotator c.args.store.now
    (c.heed_node.ensures.walk.heeds told) k)

-- the answer is that over the store before
pub returns-clause-answer : goal.returns-clause-answer
returns-clause-answer g c told stored =
    let half = g.H.NodeHash.half in
    let same : forms_in c.heed_node.new.store ≡ forms_in c.args.store.now =
    counted_nodes c.args.store.now c.heed_node.new.store (c.heed_node.ensures.walk.store told) in
    answers_counted half
    (node_given half (forms_in c.args.store.now) c.args.acquire.now.target c.args.acquire.now.peers c.args.peer c.args.kind c.args.id.now
    c.args.blob.now)
    (node_stored half (forms_in c.args.store.now) c.args.acquire.now.target c.args.acquire.now.peers c.args.peer c.args.kind c.args.id.now
    c.args.blob.now)
    c.args.store.now c.heed_node.new.store c.node.result c.node.new.store (c.heed_node.ensures.walk.store told)
    (subst (λ (m : Lookup). Answers half (node_given half m c.args.acquire.now.target c.args.acquire.now.peers c.args.peer c.args.kind
    c.args.id.now c.args.blob.now)
    (node_stored half m c.args.acquire.now.target c.args.acquire.now.peers c.args.peer c.args.kind c.args.id.now c.args.blob.now)
    c.heed_node.new.store
    c.node.result c.node.new.store) same
    (c.node.ensures.answer told (subst (AreStored half) (sym same) stored)))

-- what was written is shaded, and reached from the target
pub returns-clause-walks : goal.returns-clause-walks
returns-clause-walks g c told stored turning among k =
    node_walks g.H.NodeHash.half c.args.rotator.now.shaded c.args.rotator.now c.heed_node.new.rotator c.args.store.now c.node.new.store
    c.args.acquire.now c.args.peer c.args.kind c.args.id.now c.args.blob.now (c.heed_node.ensures.walk.heeds told) among
    (node_given g.H.NodeHash.half (forms_in c.args.store.now) c.args.acquire.now.target c.args.acquire.now.peers c.args.peer c.args.kind
    c.args.id.now c.args.blob.now)
    c.node.result
    (c.in_ok-heed_node.ensures.heeded told turning) (returns-clause-answer g c told stored) k
