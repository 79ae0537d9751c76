use Rattle.std.proofs.Common.{◌∙◌, rules, arith}
use Rattle.std.proofs.lemmas.Grind.{common_steps}
use Rattle.std.specs.Option.{option_and_then}
use Rattle.ledger_spec.specs.Forms.{inner_of}
use Rattle.shamap_node.specs.Nodes.{held}
use Rattle.node_offer.proofs.Storing.{refused_at, handed_on}
use Rattle.node_offer.proofs.node.offer_at.Goals as goal

-- what is put is the node's own form, so a clash of the put is the outcome, and at most that form is stored
pub returns-in_err-stored-clause-judges : goal.returns-in_err-stored-clause-judges
returns-in_err-stored-clause-judges g c = record {
  outcome = first_of (search rules, grind (arith, common_steps));
  rule = first_of (search rules, grind (arith, common_steps));
  stored = first_of (search rules, grind (arith, common_steps));
  err = λ tells.
      handed_on _ _ _ c.from_residual-in_err-stored.ensures.1
      (refused_at g.H.NodeHash.half c.args.store.now _ c.args.kind c.args.id.now (held c.args.node.now) c.args.wanted.now
      (option_and_then inner_of c.args.parent.now) c.bytes.result.now c.in_err-stored.field-0.0
      (c.bytes.ensures ∙ c.in_ok-form.ensures) (c.in_err-stored.ensures.stores tells));
}
