use Rattle.std.proofs.Common.{rules, ◌∙◌, ap, refl, sym}
use Rattle.std.specs.FinMap as map
use Rattle.ledger_spec.specs.Forms.{IsHeld, form_of}
use Rattle.ledger_spec.specs.Spots.{spot_of}
use Rattle.ledger_spec.proofs.shared.OfferLaws.{read_wire_held, ok_same}
use Rattle.ledger_spec.proofs.shared.Owning.{all_own}
use Rattle.shamap_node.specs.Nodes.{held}
use Rattle.rotating_store.specs.Stores.{nodes_of}
use Rattle.rotating_store.proofs.shared.Reading.{stored_notes}
use Rattle.node_offer.specs.Ways.{spot_found}
use Rattle.node_offer.proofs.Notes.{held_back}
use Rattle.node_offer.proofs.Outcomes.{no_cause, rule_there}
use Rattle.node_offer.proofs.Storing.{by_place, refused_there, handed_on}
use Rattle.node_offer.proofs.node.offer.Goals as goal

-- finding the place only reads, so the node is judged by what was held, at the place that the definitions find; bytes that were read are
-- judged as a node, and of that no cause is told
pub returns-clause-answers : goal.returns-clause-answers
returns-clause-answers g c = record {
  outcome = λ tells all.
      by_place g.H.NodeHash.half (nodes_of c.args.store.now) (nodes_of c.find.new.store) c.args.target.now c.args.kind c.args.id.now
      (held c.in-Ok.node) (spot_found c.in_ok-found.found) _
      (ap nodes_of (c.find.ensures.read.same tells)) all
      (c.in_ok-found.ensures.spot (tells, stored_notes g.H.NodeHash.half c.args.store.now all)) c.in-Ok.ensures.node
      ∙ c.in_ok-offer_to.ensures.judges.outcome tells;
  cause =
      no_cause g.H.NodeHash.half c.args.blob.now (held c.in-Ok.node) (spot_found c.in_ok-found.found) c.args.kind c.args.id.now
      c.in_ok-offer_to.field-0 c.in_ok-offer_to.ensures.judges.rule;
  rule = λ tells all n read.
      let half = g.H.NodeHash.half in
      let nodes = map.get (nodes_of c.args.store.now) in
      rule_there (held c.in-Ok.node) n (spot_found c.in_ok-found.found) (spot_of nodes c.args.target.now c.args.kind c.args.id.now)
      c.args.kind c.args.id.now c.in_ok-offer_to.field-0 (ok_same (sym c.in-Ok.ensures.node ∙ read))
      (c.in_ok-found.ensures.spot (tells, stored_notes half c.args.store.now all)
      ∙ ap (λ l. spot_of l c.args.target.now c.args.kind c.args.id.now) (all_own half nodes all))
      c.in_ok-offer_to.ensures.judges.rule;
}

-- finding the place only reads, so a node that isn't judged leaves what it leaves of the store as it was
pub returns-in_err-offer_to-clause-err : goal.returns-in_err-offer_to-clause-err
returns-in_err-offer_to-clause-err g c tells all =
    handed_on _ _ _ c.from_residual-in_err-offer_to.ensures.1
    (refused_there g.H.NodeHash.half c.args.store.now c.find.new.store _ c.args.target.now c.args.kind c.args.id.now (held c.in-Ok.node)
    (spot_found c.in_ok-found.found) _ c.in_err-offer_to.field-0.0
    (c.find.ensures.read.same tells) all (c.in_ok-found.ensures.spot (tells, stored_notes g.H.NodeHash.half c.args.store.now all))
    c.in-Ok.ensures.node (c.in_err-offer_to.ensures.judges.err tells))

-- the form of a node that came by wire reads back as that node, so a note of it is true
pub returns-in_err-offer_to-clause-store : goal.returns-in_err-offer_to-clause-store
returns-in_err-offer_to-clause-store g c =
    let half = g.H.NodeHash.half in
    let n = held c.in-Ok.node in
    let is : IsHeld half n = read_wire_held half c.args.blob.now n c.known_half.ensures c.in-Ok.ensures.node in
    record {
      notes = λ told. c.in_err-offer_to.ensures.notes (held_back half n (form_of n) (is, refl)) (c.find.ensures.read.notes told);
      later = search rules;
      cause = search rules;
    }

-- finding the place keeps true notes, and the form of a node that came by wire reads back, so its own note is true
pub returns-clause-store : goal.returns-clause-store
returns-clause-store g c =
    let half = g.H.NodeHash.half in
    let n = held c.in-Ok.node in
    let is : IsHeld half n = read_wire_held half c.args.blob.now n c.known_half.ensures c.in-Ok.ensures.node in
    record {
      notes = λ told. c.in_ok-offer_to.ensures.notes (held_back half n (form_of n) (is, refl)) (c.find.ensures.read.notes told);
      later = search rules;
      cause = search rules;
    }
