use Rattle.std.proofs.Common.{◌≡◌, true, sym, ◌∙◌}
use Rattle.std.specs.Option.{option_copied}
use Rattle.ledger_spec.specs.Peers.{is_present}
use Rattle.ledger_spec.specs.Acquiring.{Acquiring}
use Rattle.acquire_core.specs.Answers.{forms_in}
use Rattle.acquire_core.specs.Parts.{shown}
use Rattle.acquire_core.proofs.Judging.{handed}
use Rattle.acquire_core.proofs.Replying.{base_answers, base_refused}
use Rattle.acquire_core.proofs.shared.Wanting.{stays}
use Rattle.acquire_core.proofs.acquire.Acquire.base.Goals as goal

-- parts that have the wanted hashes have no bad outcome, so none of the three charges falls on the peer
pub returns-clause-wanted : goal.returns-clause-wanted
returns-clause-wanted g c tells all are =
    stays g.H.NodeHash.half (forms_in c.args.store.now) c.args.self.now c.self.inside.target c.self.inside.seq c.self.inside.peers
    c.charge_parts.new.peers c.args.header.now (option_copied c.args.state) (option_copied c.args.tx) c.args.peer (shown
    c.in_ok-parts.parts)
    c.self.view_is are (c.in_ok-parts.ensures.answer tells all).0 c.charge_parts.ensures

-- the peer is present, so what is answered is what the parts come to
pub returns-in_err-parts-clause-answer : goal.returns-in_err-parts-clause-answer
returns-in_err-parts-clause-answer g c tells all =
    let here : is_present c.self.inside.peers c.args.peer ≡ true = sym c.has.ensures ∙ c.if-not-has.false in
    let a : Acquiring = record { target = c.self.inside.target; seq = c.self.inside.seq; peers = c.self.inside.peers } in
    rw (← c.self.view_is)
    (handed g.H.NodeHash.half _ _ c.args.store.now c.take_parts.new.store c.from_residual.result c.in_err-parts.field-0.0
    c.from_residual.ensures.1
    (base_refused g.H.NodeHash.half (forms_in c.args.store.now) c.args.store.now c.take_parts.new.store a c.args.peer here
    c.args.header.now (option_copied c.args.state) (option_copied c.args.tx) c.in_err-parts.field-0.0
    (c.in_err-parts.ensures.answer tells all)))

pub returns-clause-answer : goal.returns-clause-answer
returns-clause-answer g c tells all =
    let here : is_present c.self.inside.peers c.args.peer ≡ true = sym c.has.ensures ∙ c.if-not-has.false in
    let a : Acquiring = record { target = c.self.inside.target; seq = c.self.inside.seq; peers = c.self.inside.peers } in
    rw (← c.self.view_is)
    (base_answers g.H.NodeHash.half (forms_in c.args.store.now) c.args.store.now c.take_parts.new.store a c.args.peer here
    c.args.header.now (option_copied c.args.state) (option_copied c.args.tx) (shown c.in_ok-parts.parts)
    (c.in_ok-parts.ensures.answer tells all))
