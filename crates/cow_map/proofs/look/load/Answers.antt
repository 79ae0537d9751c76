use Rattle.std.proofs.Common.{ap, sym, ◌∙◌, refl, None}
use Rattle.ledger_spec.specs.Forms.{form_of}
use Rattle.ledger_spec.specs.Rules.{fault_of}
use Rattle.shamap_node.specs.Nodes.{held}
use Rattle.cow_map.specs.Trees.{found_seen}
use Rattle.cow_map.proofs.Looking.{seen_fits, seen_breaks}
use Rattle.cow_map.proofs.look.load.Goals as goal

pub returns-in-Ok-clause-node : goal.returns-in-Ok-clause-node
returns-in-Ok-clause-node g c tells =
    let f = rw c.in-Ok-Some.field-0-is at (c.in-Ok-Some.ensures.exact tells) in
    seen_fits _ _ _ _ (form_of (held c.in-Ok-Some.node.value)) f.0 (f.1, refl)
    (ap (λ n. fault_of (held n) None c.args.kind c.args.id.now) (sym c.deref.ensures) ∙ sym (c.in-Ok.ensures))

-- the source holds the node under this hash, and the rule that it breaks at this place is what is found there
pub returns-in-Err-clause-stops : goal.returns-in-Err-clause-stops
returns-in-Err-clause-stops g c tells =
    let f = rw c.in-Ok-Some.field-0-is at (c.in-Ok-Some.ensures.exact tells) in (
      refl,
      ap (found_seen c.args.hash.now)
          (seen_breaks _ _ _ _ (form_of (held c.in-Ok-Some.node.value)) f.0 (f.1, refl) c.in-Err.rule
          (ap (λ n. fault_of (held n) None c.args.kind c.args.id.now) (sym c.deref.ensures) ∙ sym (c.in-Err.ensures))),
    )
