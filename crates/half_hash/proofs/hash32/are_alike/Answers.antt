use Rattle.std.proofs.Common.{sym, ap, ◌∙◌}
use Rattle.std.specs.Ordering.{is_eq}
use Rattle.std.specs.Cmp.Lexicographic.{texts_ties}
use Rattle.half_hash.proofs.hash32.are_alike.Goals as goal

-- bytes are the same where neither stands before the other
pub returns : goal.returns
returns c = c.is_eq.ensures ∙ ap is_eq c.order_of.ensures ∙ sym (texts_ties c.args.one.now c.args.other.now)
