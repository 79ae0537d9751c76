use Rattle.shamap_node.proofs.Heads.{bare, not_bare}
use Rattle.shamap_node.proofs.leaves.bare_head.Goals as goal

pub returns-then-not-is_bare : goal.returns-then-not-is_bare
returns-then-not-is_bare g c = not_bare g.H.NodeHash.half c.args.form.now c.if-not-is_bare.ensures

pub returns : goal.returns
returns g c = bare g.H.NodeHash.half c.args.form.now c.half.result _ c.if-not-is_bare.ensures c.half.ensures c.new.ensures
