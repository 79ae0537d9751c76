use Rattle.std.proofs.Common.{◌≡◌, Some, IfOk, IfSome, List, ℕ, ◌∙◌, subst}
use Rattle.ledger_spec.specs.Forms.{hash_of}
use Rattle.ledger_spec.specs.Own.{own_form}
use Rattle.shamap_node.specs.Nodes.{held}
use Rattle.path_proof.specs.Sources.{Gives}
use Rattle.path_proof.proofs.Holding.{node_given, node_hashed}
use Rattle.path_proof.proofs.forms.node_of_form.Goals as goal

pub returns-in-Some-clause-hash : goal.returns-in-Some-clause-hash
returns-in-Some-clause-hash c = λ half same.
    node_hashed half c.args.h.now c.args.form.now (held c.in-Some.leaf.value) (same ∙ c.if-not-equals.ensures)
    (rw c.in-Some.is at (c.in_ok-leaf.ensures.form half))

pub returns-in-Some-clause-exact : goal.returns-in-Some-clause-exact
returns-in-Some-clause-exact c = λ half same.
    node_given half c.args.h.now c.args.form.now (held c.in-Some.leaf.value) (same ∙ c.if-not-equals.ensures)
    (rw c.in-Some.is at (c.in_ok-leaf.ensures.form half))

pub returns-clause-hash : goal.returns-clause-hash
returns-clause-hash c = λ half same.
    subst (λ (h : List ℕ). IfOk c.other_node.result (λ o. IfSome o (λ node. hash_of half (held node.value) ≡ h))) c.if-not-equals.ensures
    (c.other_node.ensures.hash half same)

pub returns-clause-exact : goal.returns-clause-exact
returns-clause-exact c = λ half same.
    subst (λ (h : List ℕ). Gives half (own_form half h (Some c.args.form.now)) c.other_node.result) c.if-not-equals.ensures
    (c.other_node.ensures.exact half same)
