use Rattle.std.proofs.Common.{sym, ◌∙◌}
use Rattle.ledger_spec.proofs.shared.Hashes.{all_zero}
use Rattle.shamap_node.proofs.parts.Inner.new.Goals as goal

pub returns-then-not-has_branch : goal.returns-then-not-has_branch
returns-then-not-has_branch c = all_zero c.args.hashes (sym c.has_branch.ensures ∙ c.if-not-has_branch.true)
