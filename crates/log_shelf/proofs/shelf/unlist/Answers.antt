use Rattle.std.proofs.Common.{◌≡◌, ◌<◌, length, ℕ, List, IsTrue, sym, ◌∙◌, subst, rules}
use Rattle.std.proofs.lemmas.Fn.{filter_same}
use Rattle.node_backend.specs.Numbers.{is_among, without}
use Rattle.node_backend.proofs.shared.Lists.{without_less}
use Rattle.log_shelf.proofs.shelf.unlist.Goals as goal

pub returns-clause-gone : goal.returns-clause-gone
returns-clause-gone c = filter_same _ _ _ (λ x b f' k. search rules) _ _ c.retain.ensures.filtered

-- the number stood in the list, and every place where it stood is gone
pub returns-clause-shorter : goal.returns-clause-shorter
returns-clause-shorter c found =
    let gone : c.retain.new.self.items ≡ without c.args.live.now.items c.args.number = filter_same _ _ _ (λ x b f' k. search rules) _ _
    c.retain.ensures.filtered in
    let among : IsTrue (is_among c.args.live.now.items c.args.number) =
    subst (λ (xs : List ℕ). IsTrue (is_among xs c.args.number)) c.deref.ensures.value (sym c.contains-found.ensures.value ∙ found) in
    subst (λ (xs : List ℕ). length xs < length c.args.live.now.items) (sym gone) (without_less c.args.number c.args.live.now.items among)
