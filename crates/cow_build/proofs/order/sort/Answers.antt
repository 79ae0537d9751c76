use Rattle.std.proofs.Common.{rules}
use Rattle.std.proofs.lemmas.List.Sorted.{answers_always}
use Rattle.shamap_node.specs.declared.parts.Item.{Item}
use Rattle.cow_build.proofs.order.sort.Goals as goal

pub returns-clause-sorted : goal.returns-clause-sorted
returns-clause-sorted c =
    c.in_ok-sort_by_key.ensures.sorted (λ (item : Item). item.key) (answers_always _ _ _ (λ f a r q h. search rules))
