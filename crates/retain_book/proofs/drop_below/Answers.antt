use Rattle.std.proofs.Common.{nat_le, rules}
use Rattle.std.proofs.lemmas.Map.Made.{filter_same_pairs}
use Rattle.retain_book.proofs.drop_below.Goals as goal

pub returns : goal.returns
returns c = filter_same_pairs _ (λ e. nat_le c.args.floor e.1) _ (λ k v b w f' t. search rules) _ _ c.retain.ensures.filtered
