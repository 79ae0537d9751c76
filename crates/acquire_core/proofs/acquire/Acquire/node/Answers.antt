-- the peer is present, so what is answered is the node's outcome
use Rattle.std.proofs.Common.{◌≡◌, true, sym, ◌∙◌}
use Rattle.ledger_spec.specs.Peers.{is_present}
use Rattle.ledger_spec.specs.Acquiring.{Acquiring}
use Rattle.acquire_core.specs.Answers.{forms_in}
use Rattle.acquire_core.proofs.Replying.{node_answers}
use Rattle.acquire_core.proofs.acquire.Acquire.node.Goals as goal

pub returns-clause-answer : goal.returns-clause-answer
returns-clause-answer g c tells all =
    let here : is_present c.self.inside.peers c.args.peer ≡ true = sym c.has.ensures ∙ c.if-not-has.false in
    let a : Acquiring = record { target = c.self.inside.target; seq = c.self.inside.seq; peers = c.self.inside.peers } in
    rw (← c.self.view_is)
    (node_answers g.H.NodeHash.half (forms_in c.args.store.now) c.args.store.now c.take_node.new.store a c.args.peer here c.args.kind
    c.args.id.now c.args.blob.now c.in_ok-offered.offered (c.in_ok-offered.ensures.answer tells all))
