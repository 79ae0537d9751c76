use Rattle.std.proofs.Common.{sym, ap, ◌∙◌}
use Rattle.std.specs.Option.{is_some}
use Rattle.ledger_spec.proofs.shared.Inners.{not_inner_length, not_inner_prefix}
use Rattle.shamap_node.proofs.Branches.{seen}
use Rattle.shamap_node.proofs.forms.is_inner_form.Goals as goal
use Rattle.shamap_node.proofs.forms.is_inner_form.Goals.{then-form-ne516-via-then-form-ne516}
use Rattle.shamap_node.proofs.forms.is_inner_form.Goals.{then-form-ne516-via-else-form-ne516+then-not-begins}

-- an inner node's form has 516 bytes and begins with its prefix, and these bytes fail in one of the two
pub returns-then-form-ne516 : goal.returns-then-form-ne516
returns-then-form-ne516 c =
    elim c.then-form-ne516.branch [
      | then-form-ne516-via-then-form-ne516 w ↦ sym (ap is_some (not_inner_length c.args.form.now w.if-form-ne516.true))
      | then-form-ne516-via-else-form-ne516+then-not-begins w ↦ sym
          (ap is_some (not_inner_prefix c.args.form.now (sym w.begins.ensures ∙ w.if-not-begins.true)))
    ]

pub returns : goal.returns
returns c = seen c.args.form.now _ c.has_branch.result (sym c.begins.ensures ∙ c.if-not-begins.false) c.if-form-ne516.false
    c.split_at.ensures.back c.has_branch.ensures
