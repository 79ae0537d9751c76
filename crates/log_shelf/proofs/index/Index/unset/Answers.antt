use Rattle.std.proofs.Common.{◌≡◌, Some, sym, ap, ◌∙◌}
use Rattle.std.specs.FinMap as map
use Rattle.log_shelf.specs.Places.{Places}
use Rattle.node_backend.proofs.shared.Tables.{get_entries, insert_entries}
use Rattle.log_shelf.proofs.Indexes.{remove_entries, insert-back, remove-back, get-set, ok_facts}
use Rattle.log_shelf.proofs.index.Index.unset.Goals as goal

-- the hash had no place
pub returns-in-None : goal.returns-in-None
returns-in-None c places place before was =
    remove_entries c.self.inside.entries.entries c.remove.new.self.entries c.args.key c.remove.ensures.updates.0
    ∙ (ap (λ (m : Places). map.remove m c.args.key) (c.self.view_is ∙ was) ∙ remove-back places c.args.key place (before ∙ c.in-None.is))

-- it had this one
pub returns-in-Some : goal.returns-in-Some
returns-in-Some c places place before was =
    let held : map.get c.args.self.now c.args.key ≡ Some place = ap (λ (m : Places). map.get m c.args.key) was
    ∙ get-set places c.args.key place in
    let found = sym (get_entries c.self.inside.entries.entries c.args.key)
    ∙ (ap (λ (m : Places). map.get m c.args.key) c.self.view_is ∙ held) in
    let updates = ok_facts c.insert.result c.insert.ensures.updates c.insert.ensures.absent (λ none. absurd (cc (none, found))) in
    insert_entries c.self.inside.entries.entries c.insert.new.self.entries c.args.key c.in-Some.place updates.0
    ∙ (ap (λ (m : Places). map.insert m c.args.key c.in-Some.place) (c.self.view_is ∙ was)
    ∙ insert-back places c.args.key c.in-Some.place place (before ∙ c.in-Some.is))
