use Rattle.std.proofs.Common.{◌∙◌}
use Rattle.ledger_spec.specs.Forms.{leaf_of}
use Rattle.shamap_node.proofs.Heads.{head_where_leaf}
use Rattle.shamap_node.proofs.leaves.is_leaf_form.Goals as goal

pub returns : goal.returns
returns g c =
    c.is_some.ensures ∙ head_where_leaf c.leaf_head.result (leaf_of g.H.NodeHash.half c.args.form.now) c.leaf_head.ensures
