use Rattle.std.proofs.Common.{Ok, Err, Result, arith, subst, sym}
use Rattle.ledger_spec.specs.declared.outcomes.Offered.{Offered as Outcome}
use Rattle.ledger_spec.specs.Own.{AreStored}
use Rattle.ledger_spec.specs.Offers.{node_outcome, stored_by}
use Rattle.ledger_spec.specs.Wire.{read_wire}
use Rattle.rotating_store.specs.Reading.{KeepsReadable}
use Rattle.node_offer.specs.declared.fault.OfferFault.{OfferFault}
use Rattle.node_offer.specs.declared.fault.OfferFault.TheVariants as faults
use Rattle.acquire_core.specs.Answers.{forms_in, Answers}
use Rattle.acquire_core.proofs.Judging.{node_kept, bytes_by, one_node, clash_stores, said_keeps}
use Rattle.acquire_core.proofs.parts.take_node.Goals as goal

-- the offer gives the node's outcome and stores its form where that says so; a clash stores nothing
pub returns-clause-answer : goal.returns-clause-answer
returns-clause-answer g c tells all =
    let half = g.H.NodeHash.half in
    let outcome = node_outcome half (forms_in c.args.store.now) c.args.target.now c.args.kind c.args.id.now c.args.blob.now in
    let forms = stored_by (read_wire half c.args.blob.now) in
    subst (λ (r : Result Outcome OfferFault). Answers half outcome (forms outcome) c.args.store.now r c.offer.new.store)
    (sym c.numbered.ensures)
    (one_node half outcome forms c.args.store.now c.offer.new.store c.offer.result
    (clash_stores (read_wire half c.args.blob.now))
    (c.offer.ensures.answers.outcome tells all) (c.offer.ensures.stored tells) (c.offer.ensures.err tells all))

pub returns-clause-kept : goal.returns-clause-kept
returns-clause-kept g c tells all =
    node_kept g.H.NodeHash.half c.known_half.ensures c.args.store.now c.offer.new.store c.args.target.now c.args.kind c.args.id.now
    c.args.blob.now
    c.numbered.result (bytes_by c.args.blob.now (λ i. omega (arith, c.type_inv.blob i))) all (returns-clause-answer g c tells all)

pub returns-clause-store : goal.returns-clause-store
returns-clause-store g c =
    subst (λ (r : Result Outcome OfferFault).
    KeepsReadable _ g.H.NodeHash.half faults.Fault c.args.store.now c.offer.new.store r) (sym c.numbered.ensures)
    (said_keeps _ g.H.NodeHash.half c.args.store.now c.offer.new.store c.offer.result c.offer.ensures.store)
