use Rattle.std.proofs.Common.{sym, ap, ◌∙◌}
use Rattle.std.specs.Prelude.{option_copied}
use Rattle.ledger_spec.specs.Reads.{inner_hashes}
use Rattle.shamap_node.specs.declared.Node.{Node}
use Rattle.shamap_node.specs.Nodes.{held}
use Rattle.path_proof.proofs.Walks.{branches_found}
use Rattle.path_proof.proofs.way.last_inner.Goals as goal

pub returns-in-Some : goal.returns-in-Some
returns-in-Some c =
    c.inner_in.ensures ∙ ap (λ (n : Node). inner_hashes (held n)) c.deref.ensures
    ∙ branches_found c.args.used.now c.in-Some.node.now (sym (ap option_copied c.in-Some.is) ∙ c.last.ensures.value)
