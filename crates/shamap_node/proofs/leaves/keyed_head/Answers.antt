use Rattle.std.proofs.Common.{◌∙◌}
use Rattle.shamap_node.proofs.Heads.{keyed, not_keyed}
use Rattle.shamap_node.proofs.leaves.keyed_head.Goals as goal

pub returns-then-not-is_keyed : goal.returns-then-not-is_keyed
returns-then-not-is_keyed c = not_keyed c.args.kind c.args.form.now c.if-not-is_keyed.ensures

pub returns : goal.returns
returns c = keyed c.args.kind c.args.form.now c.from_slice.result _ c.if-not-is_keyed.ensures
    (c.from_slice.ensures ∙ c.split_at.ensures.back) c.new.ensures
