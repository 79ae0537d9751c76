use Rattle.std.proofs.Common.{◌∙◌}
use Rattle.rotating_store.proofs.Checking.{has_listed, none_listed}
use Rattle.rotating_store.proofs.unchecked.is_in.Goals as goal

pub returns-then-is_empty : goal.returns-then-is_empty
returns-then-is_empty c = none_listed c.args.h.now c.args.hashes.now.keys (c.is_empty.ensures.0 c.if-is_empty.true)

pub returns : goal.returns
returns c = c.contains.ensures ∙ has_listed c.args.h.now c.args.hashes.now.keys
