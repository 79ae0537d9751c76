use Rattle.std.proofs.Common.{sym, subst, List, ◌-◌, ◌∷◌, [], length}
use Rattle.ledger_spec.specs.Tree.{Entry}
use Rattle.ledger_spec.specs.Maps.{hash_cmp, insert_in}
use Rattle.cow_map.specs.Trees.{StandsAt}
use Rattle.cow_map.proofs.Results.{ok_map}
use Rattle.cow_map.proofs.shared.Planting.{two_entries}
use Rattle.cow_map.proofs.put.+split.Goals as goal

-- both keys take this branch, so an inner node with it alone holds the two entries that stand below, which are enough
pub returns-clause-stands : goal.returns-clause-stands
returns-clause-stands t c =
    ok_map c.above.result _ _ c.above.ensures.stands (λ link done half stored kind bytes leads.
    let x : List Entry = insert_in hash_cmp ((c.args.old_key.now, bytes) ∷ []) c.args.item.key c.args.item.value in
    done half stored kind x
    (two_entries c.args.id.now c.args.item.key c.args.old_key.now bytes c.args.item.value (λ same. c.requires.differ (sym same)))
    (subst (λ p. StandsAt half stored kind c.split.new.arena (64 - length p) p c.in_ok-next.next x) c.below.ensures
    (c.in_ok-next.ensures.stands half stored kind bytes leads)))

pub returns-then-a-b-clause-stands : goal.returns-then-a-b-clause-stands
returns-then-a-b-clause-stands t c =
    ok_map c.fork.result _ _ c.fork.ensures.stands (λ link done half stored kind bytes leads.
    done half stored kind c.args.old_key.now bytes (λ same. c.requires.differ (sym same))
    (c.toward-a.ensures.under c.requires.keys.old_under) leads)
