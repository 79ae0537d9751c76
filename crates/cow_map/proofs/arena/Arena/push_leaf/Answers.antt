use Rattle.cow_map.specs.declared.node.Cow.TheVariants.{Leaf}
use Rattle.cow_map.proofs.Pushing.{pushed}
use Rattle.cow_map.proofs.arena.Arena.push_leaf.Goals as goal

pub invariant_of-self-2 : goal.invariant_of-self-2
invariant_of-self-2 c =
    pushed _ _ c.in_ok-new.field-0 (Leaf c.args.item) c.in_ok-push.ensures.items c.in_ok-new.ensures.ok c.self.invariant c.args.item.valid
