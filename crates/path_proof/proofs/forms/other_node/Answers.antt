use Rattle.std.proofs.Common.{rules}
use Rattle.shamap_node.specs.Nodes.{held}
use Rattle.path_proof.proofs.Holding.{given, no_node, no_fault, node_given, node_hashed}
use Rattle.path_proof.proofs.forms.other_node.Goals as goal

pub returns-in_ok-shared-in-Ok-clause-hash : goal.returns-in_ok-shared-in-Ok-clause-hash
returns-in_ok-shared-in-Ok-clause-hash c = λ half same.
    rw c.in_ok-shared-in-Ok.ensures.same
    (node_hashed half c.args.own.now c.args.form.now (held c.in-Ok.node) same (c.in-Ok.ensures.form half same))

pub returns-in_ok-shared-in-Ok-clause-exact : goal.returns-in_ok-shared-in-Ok-clause-exact
returns-in_ok-shared-in-Ok-clause-exact c = λ half same.
    rw c.in_ok-shared-in-Ok.ensures.same
    (node_given half c.args.own.now c.args.form.now (held c.in-Ok.node) same (c.in-Ok.ensures.form half same))

-- what is no node is a header, or nothing
pub returns-in-Err : goal.returns-in-Err
returns-in-Err c =
    let header = c.not_a_node.ensures.header in
    let none = c.not_a_node.ensures.none in
    record {
      hash = λ half same. no_node _ _ c.not_a_node.result none;
      exact = λ half same. given half c.args.own.now c.args.form.now same
          (c.in-Err.ensures.none half same (search rules)) c.not_a_node.result header none;
      cause = no_fault _ c.not_a_node.result header;
    }
