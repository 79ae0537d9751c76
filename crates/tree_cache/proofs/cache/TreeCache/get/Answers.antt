use Rattle.std.proofs.Common.{sym, ap, ◌∙◌}
use Rattle.std.specs.Option.{option_copied}
use Rattle.tree_cache.proofs.shared.Using.{unused}
use Rattle.tree_cache.proofs.cache.TreeCache.get.Goals as goal

-- nothing has moved where there is no entry
pub returns-in_default-clause-used : goal.returns-in_default-clause-used
returns-in_default-clause-used c =
    sym (unused c.args.self.now c.args.h.now c.args.generation (sym c.peek.ensures ∙ ap option_copied c.in_default.is))
