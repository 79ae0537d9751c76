use Rattle.std.proofs.Common.{sym, ◌∙◌}
use Rattle.shamap_node.proofs.Branches.{no_branch}
use Rattle.shamap_node.proofs.forms.branch_of_form.Goals as goal

pub returns-else-is_inner_form : goal.returns-else-is_inner_form
returns-else-is_inner_form c = no_branch c.args.form.now c.args.b (sym c.is_inner_form.ensures ∙ c.if-is_inner_form.false)
