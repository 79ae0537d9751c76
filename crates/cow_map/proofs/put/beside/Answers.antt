use Rattle.std.proofs.Common.{◌∙◌, sym, subst, List, ◌-◌, length}
use Rattle.ledger_spec.specs.Tree.{Entry}
use Rattle.cow_map.specs.Trees.{StandsAt}
use Rattle.cow_map.proofs.shared.Planting.{leaf_done}
use Rattle.cow_map.proofs.Putting.{same_entry}
use Rattle.cow_map.proofs.Results.{ok_map}
use Rattle.cow_map.proofs.put.beside.Goals as goal

-- the old leaf has the item's key, so the item takes the place of its entry, and one leaf holds it
pub returns-then-equals-clause-stands : goal.returns-then-equals-clause-stands
returns-then-equals-clause-stands c =
    ok_map c.push_leaf.result _ _ c.push_leaf.ensures.ok (λ link ok half stored kind bytes leads.
    subst (λ (es : List Entry). StandsAt half stored kind c.push_leaf.new.self (64 - length c.args.id.now) c.args.id.now link es)
    (sym (same_entry c.args.item.key c.args.old_key.now bytes c.args.item.value (c.if-equals.ensures ∙ c.key.ensures)))
    (leaf_done half stored kind c.args.arena.now c.push_leaf.new.self (64 - length c.args.id.now) c.args.id.now link c.args.item.key
    c.args.item.value ok.0 ok.1 c.args.item.valid c.requires.placed c.requires.keys.under))
